use Rattle.std.proofs.Common.{◌≡◌, ℕ, List, map, string_bytes}
use Rattle.std.specs.List.{list_any, list_all}
use Rattle.std.specs.Map.{keys_of as map_keys}
use Rattle.vfs_names.specs.Path.{same_text}
use Rattle.item_meta.proofs.object.are_among.Given as goal

abbrev pub invariant-loop-key : goal.invariant-loop-key
invariant-loop-key l =
    let test = λ (k : List ℕ). list_any (same_text k) (map (λ name. name.now) l.names) in
    list_all test (map string_bytes (map_keys l.members.entries)) ≡ list_all test (map string_bytes l.key-iterator)
