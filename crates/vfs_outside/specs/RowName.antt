-- Which texts can be a row's name.
use Rattle.std.specs.Prelude.{◌≡◌, ℕ, ◌==◌, true, false, List}
use Rattle.std.specs.List.{list_any}
use Rattle.std.specs.Str.{IsUtf8}
use Rattle.vfs_names.specs.Path.{is_name}

-- a row's name is one name of a path, in UTF-8
pub record IsRowName (name : List ℕ) : Type 0 where
  pub is_one : is_name name ≡ true
  pub no_slash : list_any (λ byte. byte == 47) name ≡ false
  pub utf8 : IsUtf8 name
