-- A field has one value, and so a text has one value but for its spelling.
use Rattle.std.proofs.Common.{◌≡◌, ℕ, Bool, true, false, List, Option, Some, None, codes, refl, ap, ap₂, ◌∙◌, subst}
use Rattle.byte_ranges.specs.declared.Span.{Span}
use Rattle.hex.specs.Hex.{encode_lower}
use Rattle.serde_json.specs.Data.{Data, null, boolean, number, string, array, object}
use Rattle.vfs_names.specs.declared.fingerprint.Fingerprint.{Fingerprint}
use Rattle.item_meta.specs.declared.field.Field.TheVariants.{Spelling}
use Rattle.item_meta.specs.declared.meta.Intent as intents
use Rattle.item_meta.specs.declared.meta.Meta.{Meta}
use Rattle.item_meta.specs.Field.{fields_before}
use Rattle.item_meta.specs.InRange.{IsIntent, IsPending}
use Rattle.item_meta.specs.Object.{value_at, number_in, is_null, IsPrintIn, IsBaseIn, IsWriteIn, IsIntentIn}
use Rattle.item_meta.specs.Rows.{AreRightIn}
use Rattle.item_meta.proofs.Digits.{one_spelling}

pub same_some : {A : Type 0} (o : Option A) (a b : A) → o ≡ Some a → o ≡ Some b → a ≡ b
same_some o a b p q = cc

intent_eq : (a b : intents.Intent) → a.pos ≡ b.pos → a.bytes ≡ b.bytes → a ≡ b
intent_eq a b p q = ap₂ (λ (pos : ℕ) (bytes : List ℕ). let i : intents.Intent = record { pos = pos; bytes = bytes } in i) p q

pub one_write : (o : Option Data) (a b : intents.Intent) → IsWriteIn o a → IsWriteIn o b → a ≡ b
one_write o a b p q =
    intent_eq a b (same_some _ a.pos b.pos p.pos q.pos)
    (one_spelling a.bytes b.bytes p.are_bytes q.are_bytes (same_some _ (encode_lower a.bytes) (encode_lower b.bytes) p.bytes q.bytes))

-- a value with a number at a key isn't null
no_null : (o : Option Data) (key : List ℕ) (n : ℕ) → number_in (value_at key o) ≡ Some n → is_null o ≡ true → ⊥
no_null None key n p h = cc
no_null (Some null) key n p h = cc
no_null (Some (boolean b)) key n p h = cc
no_null (Some (number m)) key n p h = cc
no_null (Some (string s)) key n p h = cc
no_null (Some (array ds)) key n p h = cc
no_null (Some (object ms)) key n p h = cc

print_eq : (a b : Fingerprint) → a.size ≡ b.size → a.mtime ≡ b.mtime → a.rev ≡ b.rev → a ≡ b
print_eq a b size mtime rev =
    ap (λ (x : ℕ). let p : Fingerprint = record a { size = x } in p) size
    ∙ ap (λ (x : ℕ). let p : Fingerprint = record a { size = b.size; mtime = x } in p) mtime
    ∙ ap (λ (x : ℕ). let p : Fingerprint = record b { rev = x } in p) rev

pub one_print : (o : Option Data) (a b : Fingerprint) → IsPrintIn o a → IsPrintIn o b → a ≡ b
one_print o a b p q = print_eq a b (same_some _ a.size b.size p.size q.size) (same_some _ a.mtime b.mtime p.mtime q.mtime) (same_some _ a.rev b.rev p.rev q.rev)

pub one_base : (o : Option Data) (a b : Option Fingerprint) → IsBaseIn o a → IsBaseIn o b → a ≡ b
one_base o None None p q = refl
one_base o None (Some b) p q = absurd (no_null o (codes "size") b.size q.size p)
one_base o (Some a) None p q = absurd (no_null o (codes "size") a.size p.size q)
one_base o (Some a) (Some b) p q = ap Some (one_print o a b p q)

pub one_intent : (o : Option Data) (a b : Option intents.Intent) → IsIntentIn o a → IsIntentIn o b → a ≡ b
one_intent o None None p q = refl
one_intent o None (Some b) p q = absurd (no_null o (codes "pos") b.pos q.pos p)
one_intent o (Some a) None p q = absurd (no_null o (codes "pos") a.pos p.pos q)
one_intent o (Some a) (Some b) p q = ap Some (one_write o a b p q)

-- what was read is no intent of this file, and nothing else stands there
pub other_intent : (o : Option Data) (size : ℕ) (ranges : List Span) (dirty : Bool) (intent : intents.Intent) → is_null o ≡ false → IsWriteIn o intent → (IsIntent size ranges dirty intent → ⊥)
    → (found : Option intents.Intent) → IsIntentIn o found × IsPending size ranges dirty found → ⊥
other_intent o size ranges dirty intent some here bad None row = let none = row.0 in cc
other_intent o size ranges dirty intent some here bad (Some found) row = bad (subst (IsIntent size ranges dirty) (one_write o found intent row.0 here) row.1)

meta_eq : (a b : Meta) → a.path ≡ b.path → a.size ≡ b.size → a.base_end ≡ b.base_end → a.ranges ≡ b.ranges → a.base ≡ b.base → a.dirty ≡ b.dirty → a.mtime ≡ b.mtime → a.atime ≡ b.atime → a.intent ≡ b.intent → a ≡ b
meta_eq a b path size base_end ranges base dirty mtime atime intent =
    ap (λ (x : List ℕ). let m : Meta = record a { path = x } in m) path
    ∙ ap (λ (x : ℕ). let m : Meta = record a { path = b.path; size = x } in m) size
    ∙ ap (λ (x : ℕ). let m : Meta = record a { path = b.path; size = b.size; base_end = x } in m) base_end
    ∙ ap (λ (x : List Span). let m : Meta = record a { path = b.path; size = b.size; base_end = b.base_end; ranges = x } in m) ranges
    ∙ ap (λ (x : Option Fingerprint). let m : Meta = record b { base = x; dirty = a.dirty; mtime = a.mtime; atime = a.atime; intent = a.intent } in m) base
    ∙ ap (λ (x : Bool). let m : Meta = record b { dirty = x; mtime = a.mtime; atime = a.atime; intent = a.intent } in m) dirty
    ∙ ap (λ (x : ℕ). let m : Meta = record b { mtime = x; atime = a.atime; intent = a.intent } in m) mtime
    ∙ ap (λ (x : ℕ). let m : Meta = record b { atime = x; intent = a.intent } in m) atime
    ∙ ap (λ (x : Option intents.Intent). let m : Meta = record b { intent = x } in m) intent

-- metadata that have the values of all fields are one
pub one_meta : (text : List ℕ) (o : Option Data) (a b : Meta) → AreRightIn text o a (fields_before Spelling) → AreRightIn text o b (fields_before Spelling) → a ≡ b
one_meta text o a b p q =
    let p3 = p.1.1.1 in
    let q3 = q.1.1.1 in
    let p8 = p3.1.1.1.1.1 in
    let q8 = q3.1.1.1.1.1 in
    meta_eq a b (same_some _ a.path b.path p3.0.0 q3.0.0) (same_some _ a.size b.size p3.1.0.0 q3.1.0.0) (same_some _ a.base_end b.base_end p3.1.1.1.0.0 q3.1.1.1.0.0)
    (same_some _ a.ranges b.ranges p3.1.1.1.1.0.0 q3.1.1.1.1.0.0) (one_base _ a.base b.base p3.1.1.0.0 q3.1.1.0.0) (same_some _ a.dirty b.dirty p8.0.0 q8.0.0)
    (same_some _ a.mtime b.mtime p8.1.1.0 q8.1.1.0) (same_some _ a.atime b.atime p8.1.1.1.0 q8.1.1.1.0) (one_intent _ a.intent b.intent p8.1.0.0 q8.1.0.0)
