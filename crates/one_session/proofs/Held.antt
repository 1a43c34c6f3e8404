-- What a file holds once it was opened, and where its history ends.
use Rattle.std.proofs.Common.{◌≡◌, ◌<◌, ℕ, suc, ◌+◌, ◌-◌, ◌++◌, ◌∙◌, ap, sym, refl, arith, true, Option, List, [], ◌∷◌, length, map, reverse, take, length-append, append_assoc}
use Rattle.std.proofs.lemmas.List.{map-append, reverse-append, reverse-reverse}
use Rattle.vfs_names.specs.declared.calls.Access.{Access}
use Rattle.vfs_names.specs.declared.fingerprint.Fingerprint.{Fingerprint}
use Rattle.vfs_names.specs.declared.who.By.{By}
use Rattle.item_core.specs.History.{held_by}
use Rattle.item_core.specs.declared.entry.Entry.{Entry}
use Rattle.item_core.specs.declared.entry.FileKind.{FileKind}
use Rattle.item_core.specs.declared.entry.FileKind.TheVariants as file
use Rattle.one_session.specs.Calls.{WasHeld, in_file}
use Rattle.one_session.specs.Start.{opening}
use Rattle.one_session.specs.State.{History, entries_in}
use Rattle.one_session.proofs.Going.{take_whole}

length_mapped : (by : By) (made : ℕ) (kinds : List FileKind) → length (map (in_file by true made) kinds) ≡ length kinds
length_mapped by made [] = refl
length_mapped by made (kind ∷ kinds) = ap suc (length_mapped by made kinds)

-- the entries of an open, the last of which opens
split : (by : By) (access : Access) (made : ℕ) (front : List FileKind) → opening by access made front ≡ map (in_file by true made) front ++ in_file by true made (file.Opened access) ∷ []
split by access made front = map-append (in_file by true made) front (file.Opened access ∷ [])

pub opening_length : (by : By) (access : Access) (made : ℕ) (front : List FileKind) → length (opening by access made front) ≡ length front + 1
opening_length by access made front = ap length (split by access made front) ∙ length-append (map (in_file by true made) front) (in_file by true made (file.Opened access) ∷ []) ∙ ap (λ n. n + 1) (length_mapped by made front)

-- an open doesn't change what is held
opened_holds : (by : By) (access : Access) (made : ℕ) (front : List FileKind) (past : List Entry) → held_by (reverse (opening by access made front) ++ past) ≡ held_by (reverse (map (in_file by true made) front) ++ past)
opened_holds by access made front past = ap (λ l. held_by (reverse l ++ past)) (split by access made front) ∙ ap (λ l. held_by (l ++ past)) (reverse-append (map (in_file by true made) front) (in_file by true made (file.Opened access) ∷ []))

-- the file held this before it was opened
pub was_held : (files : List History) (item : ℕ) (old : List Entry) (by : By) (access : Access) (made : ℕ) (front : List FileKind) (n : ℕ) (print : Option Fingerprint) → entries_in files item ≡ old ++ opening by access made front → n ≡ length old + length front
    → print ≡ held_by (reverse (entries_in files item)) → WasHeld files item n print
was_held files item old by access made front n print is at held = record {
  inside = omega (arith, ap length is, length-append old (opening by access made front), opening_length by access made front, at);
  so = held ∙ ap (λ l. held_by (reverse l)) is ∙ ap held_by (reverse-append old (opening by access made front)) ∙ opened_holds by access made front (reverse old) ∙ sym (ap held_by (reverse-append old (map (in_file by true made) front)))
      ∙ ap (λ l. held_by (reverse l)) (sym cut);
} where
  joined : entries_in files item ≡ (old ++ map (in_file by true made) front) ++ in_file by true made (file.Opened access) ∷ []
  joined = is ∙ ap (λ l. old ++ l) (split by access made front) ∙ sym (append_assoc old (map (in_file by true made) front) (in_file by true made (file.Opened access) ∷ []))

  cut : take n (entries_in files item) ≡ old ++ map (in_file by true made) front
  cut = ap (take n) joined ∙ take_whole (old ++ map (in_file by true made) front) (in_file by true made (file.Opened access) ∷ []) n (at ∙ ap (λ k. length old + k) (sym (length_mapped by made front)) ∙ sym (length-append old (map (in_file by true made) front)))
