pub mod Field
pub mod InRange
pub mod Text
pub mod Grammar
pub mod Object
pub mod Rows
pub mod Value
