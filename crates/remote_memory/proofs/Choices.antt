-- What follows from a fact for one variant.
use Rattle.std.proofs.Common.{Option, Some, None, Result, Ok, Err, IfNone, OnOk}

pub none_moves : {T : Type 0} {P Q : Type 0} (o : Option T) → (P → Q) → IfNone o P → IfNone o Q
none_moves None f h = f h
none_moves (Some x) f h = h

pub ok_moves : {T E : Type 0} {P Q : Type 0} (r : Result T E) → (P → Q) → OnOk r P → OnOk r Q
ok_moves (Ok x) f h = f h
ok_moves (Err e) f h = h
