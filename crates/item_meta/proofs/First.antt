-- Which field is the first that is wrong, where a step of reading found it.
use Rattle.std.proofs.lemmas.Slice.Eq.{bytes_eq-Decides}
use Rattle.std.specs.Str.{bytes_eq}
use Rattle.std.proofs.Common.{◌≡◌, ℕ, Bool, true, false, not, List, [], Option, Some, None, codes, Result, Ok, Err, IsErrAnd, refl, sym, ◌∙◌, subst}
use Rattle.byte_ranges.specs.declared.Span.{Span}
use Rattle.serde_json.specs.Data.{Data}
use Rattle.vfs_names.specs.declared.fingerprint.Fingerprint.{Fingerprint}
use Rattle.item_meta.specs.declared.field.Field.{Field}
use Rattle.item_meta.specs.declared.field.Field.TheVariants.{Shape, Extra, V, Path, Size, Base, BaseEnd, Ranges, Dirty, Intent, Mtime, Atime, Spelling}
use Rattle.item_meta.specs.declared.field.MetaError.{MetaError}
use Rattle.item_meta.specs.declared.field.MetaError.TheVariants.{BadMeta, NoMemory}
use Rattle.item_meta.specs.declared.meta.Intent as intents
use Rattle.item_meta.specs.declared.meta.Meta.{Meta}
use Rattle.item_meta.specs.Field.{fields_before}
use Rattle.item_meta.specs.Object.{value_at, number_in, has_only}
use Rattle.item_meta.specs.Rows.{own_keys, IsShapeRow, IsPathRow, IsSizeRow, IsBaseRow, IsBaseEndRow, IsRangesRow, IsDirtyRow, IsIntentRow, AreRightIn, IsFirstWrongIn}
use Rattle.item_meta.specs.InRange.{IsMeta}
use Rattle.item_meta.specs.Text.{meta_text}
use Rattle.item_meta.specs.Value.{IsRead, IsHead, IsReadFrom}
use Rattle.item_meta.proofs.Unique.{same_some, one_base, one_meta}

-- metadata that say nothing yet
abbrev blank : Meta
blank = record { path = []; size = 0; base_end = 0; ranges = []; base = None; dirty = true; mtime = 0; atime = 0; intent = None }

module _ (text : List ℕ) (o : Option Data) where
  pub first_shape : (IsShapeRow text o → ⊥) → IsFirstWrongIn text o Shape
  first_shape bad = record { until = (blank, tt); wrong = λ meta before right. bad right }

  pub first_extra : IsShapeRow text o → (has_only own_keys o ≡ true → ⊥) → IsFirstWrongIn text o Extra
  first_extra shape bad = record { until = (blank, (shape, tt)); wrong = λ meta before right. bad right }

  pub first_v : IsShapeRow text o → has_only own_keys o ≡ true → (number_in (value_at (codes "v") o) ≡ Some 1 → ⊥) → IsFirstWrongIn text o V
  first_v shape keys bad = record { until = (blank, (shape, (keys, tt))); wrong = λ meta before right. bad right }

  -- a step that failed found its field to be the first
  failed_by : {T : Type 0} (field : Field) (P : T → Type 0) (e : MetaError) → IsRead {T = T} field P (Err e) → (((x : T) → P x → ⊥) → IsFirstWrongIn text o field) → IsReadFrom text o (Err e)
  failed_by field P (BadMeta found) h first = subst (IsFirstWrongIn text o) (sym h.0) (first h.1)
  failed_by field P NoMemory h first = tt

  pub failed : {T : Type 0} (field : Field) (P : T → Type 0) (e : MetaError) (r : Result Meta MetaError) → IsRead {T = T} field P (Err e) → IsErrAnd r (λ x. x ≡ e) → (((x : T) → P x → ⊥) → IsFirstWrongIn text o field) → IsReadFrom text o r
  failed field P e (Ok meta) h same first = absurd same
  failed field P e (Err x) h same first = subst (λ y. IsReadFrom text o (Err y)) (sym same) (failed_by field P e h first)

  module _ (head : IsHead text o) where
    abbrev front : {R : Type 0} → R → IsShapeRow text o × ((has_only own_keys o ≡ true) × ((number_in (value_at (codes "v") o) ≡ Some 1) × R))
    front r = (head.shape, (head.keys, (head.version, r)))

    pub first_path : ((path : List ℕ) → IsPathRow o path → ⊥) → IsFirstWrongIn text o Path
    first_path bad = record { until = (blank, front tt); wrong = λ meta before right. bad meta.path right }

    module _ (path : List ℕ) (p : IsPathRow o path) where
      pub first_size : ((size : ℕ) → IsSizeRow o size → ⊥) → IsFirstWrongIn text o Size
      first_size bad = record { until = (record blank { path = path }, front (p, tt)); wrong = λ meta before right. bad meta.size right }

      module _ (size : ℕ) (s : IsSizeRow o size) where
        pub first_base : ((base : Option Fingerprint) → IsBaseRow o base → ⊥) → IsFirstWrongIn text o Base
        first_base bad = record { until = (record blank { path = path; size = size }, front (p, (s, tt))); wrong = λ meta before right. bad meta.base right }

        module _ (base : Option Fingerprint) (b : IsBaseRow o base) where
          pub first_base_end : ((n : ℕ) → IsBaseEndRow o size base n → ⊥) → IsFirstWrongIn text o BaseEnd
          first_base_end bad = record {
            until = (record blank { path = path; size = size; base = base }, front (p, (s, (b, tt))));
            wrong = λ meta before right.
                let rest = before.1.1.1.1 in
                bad meta.base_end (subst (λ n. IsBaseEndRow o n base meta.base_end) (same_some _ meta.size size rest.0.0 s.0)
                (subst (λ q. IsBaseEndRow o meta.size q meta.base_end) (one_base _ meta.base base rest.1.0.0 b.0) right));
          }

          module _ (base_end : ℕ) (e : IsBaseEndRow o size base base_end) where
            pub first_ranges : ((ranges : List Span) → IsRangesRow o size ranges → ⊥) → IsFirstWrongIn text o Ranges
            first_ranges bad = record {
              until = (record blank { path = path; size = size; base = base; base_end = base_end }, front (p, (s, (b, (e, tt)))));
              wrong = λ meta before right. bad meta.ranges (subst (λ n. IsRangesRow o n meta.ranges) (same_some _ meta.size size before.1.1.1.1.0.0 s.0) right);
            }

            module _ (ranges : List Span) (r : IsRangesRow o size ranges) where
              pub first_dirty : ((dirty : Bool) → IsDirtyRow o size base base_end dirty → ⊥) → IsFirstWrongIn text o Dirty
              first_dirty bad = record {
                until = (record blank { path = path; size = size; base = base; base_end = base_end; ranges = ranges }, front (p, (s, (b, (e, (r, tt))))));
                wrong = λ meta before right.
                    let rest = before.1.1.1.1 in
                    bad meta.dirty (subst (λ n. IsDirtyRow o n base base_end meta.dirty) (same_some _ meta.size size rest.0.0 s.0)
                    (subst (λ q. IsDirtyRow o meta.size q base_end meta.dirty) (one_base _ meta.base base rest.1.0.0 b.0)
                    (subst (λ n. IsDirtyRow o meta.size meta.base n meta.dirty) (same_some _ meta.base_end base_end rest.1.1.0.0 e.0) right)));
              }

              module _ (dirty : Bool) (d : IsDirtyRow o size base base_end dirty) where
                pub first_intent : ((intent : Option intents.Intent) → IsIntentRow o size ranges dirty intent → ⊥) → IsFirstWrongIn text o Intent
                first_intent bad = record {
                  until = (record blank { path = path; size = size; base = base; base_end = base_end; ranges = ranges; dirty = dirty }, front (p, (s, (b, (e, (r, (d, tt)))))));
                  wrong = λ meta before right.
                      let rest = before.1.1.1.1 in
                      bad meta.intent (subst (λ n. IsIntentRow o n ranges dirty meta.intent) (same_some _ meta.size size rest.0.0 s.0)
                      (subst (λ q. IsIntentRow o meta.size q dirty meta.intent) (same_some _ meta.ranges ranges rest.1.1.1.0.0 r.0)
                      (subst (λ q. IsIntentRow o meta.size meta.ranges q meta.intent) (same_some _ meta.dirty dirty rest.1.1.1.1.0.0 d.0) right)));
                }

                module _ (intent : Option intents.Intent) (i : IsIntentRow o size ranges dirty intent) where
                  pub first_mtime : ((n : ℕ) → number_in (value_at (codes "mtime") o) ≡ Some n → ⊥) → IsFirstWrongIn text o Mtime
                  first_mtime bad = record {
                    until = (record blank { path = path; size = size; base = base; base_end = base_end; ranges = ranges; dirty = dirty; intent = intent }, front (p, (s, (b, (e, (r, (d, (i, tt))))))));
                    wrong = λ meta before right. bad meta.mtime right;
                  }

                  module _ (mtime : ℕ) (m : number_in (value_at (codes "mtime") o) ≡ Some mtime) where
                    pub first_atime : ((n : ℕ) → number_in (value_at (codes "atime") o) ≡ Some n → ⊥) → IsFirstWrongIn text o Atime
                    first_atime bad = record {
                      until = (
                        record blank { path = path; size = size; base = base; base_end = base_end; ranges = ranges; dirty = dirty; intent = intent; mtime = mtime },
                        front (p, (s, (b, (e, (r, (d, (i, (m, tt)))))))),
                      );
                      wrong = λ meta before right. bad meta.atime right;
                    }

                    module _ (atime : ℕ) (a : number_in (value_at (codes "atime") o) ≡ Some atime) where
                      pub all_right : AreRightIn text o (record { path = path; size = size; base_end = base_end; ranges = ranges; base = base; dirty = dirty; mtime = mtime; atime = atime; intent = intent }) (fields_before Spelling)
                      all_right = front (p, (s, (b, (e, (r, (d, (i, (m, (a, tt)))))))))

-- the field of an answer
pub told : {T : Type 0} (text : List ℕ) (o : Option Data) (found field : Field) → ◌≡◌ {A = Result T MetaError} (Err (BadMeta found)) (Err (BadMeta field)) → IsFirstWrongIn text o found → IsFirstWrongIn text o field
told text o found field same first = let e : found ≡ field = cc in subst (IsFirstWrongIn text o) e first

pub told_by : (text : List ℕ) (o : Option Data) (e : MetaError) (field : Field) → IsReadFrom text o (Err e) → ◌≡◌ {A = Result Meta MetaError} (Err e) (Err (BadMeta field)) → IsFirstWrongIn text o field
told_by text o (BadMeta found) field h same = told {T = Meta} text o found field same h
told_by text o NoMemory field h same = absurd cc

pub first_spelling : (text : List ℕ) (o : Option Data) (meta : Meta) → AreRightIn text o meta (fields_before Spelling) → (text ≡ meta_text meta → ⊥) → IsFirstWrongIn text o Spelling
first_spelling text o meta right other = record {
  until = (meta, right);
  wrong = λ found before same. other (subst (λ m. text ≡ meta_text m) (one_meta text o found meta before right) same);
}

pub in_range : (text : List ℕ) (o : Option Data) (meta : Meta) → AreRightIn text o meta (fields_before Spelling) → IsMeta meta
in_range text o meta right =
    let r3 = right.1.1.1 in
    record {
      path = r3.0.1;
      size = r3.1.0.1;
      base = r3.1.1.0.1;
      base_end = r3.1.1.1.0.1;
      ranges = r3.1.1.1.1.0.1;
      dirty = r3.1.1.1.1.1.0.1;
      intent = r3.1.1.1.1.1.1.0.1;
    }

-- ---- what a comparison of two texts says

pub other_text : (a b : List ℕ) (r : Bool) → r ≡ not (bytes_eq a b) → r ≡ true → a ≡ b → ⊥
other_text a b r test differs same = let yes = (bytes_eq-Decides a b).1 same in cc

not_not : (b : Bool) → not b ≡ false → b ≡ true
not_not true e = refl
not_not false e = absurd cc

pub one_text : (a b : List ℕ) (r : Bool) → r ≡ not (bytes_eq a b) → r ≡ false → a ≡ b
one_text a b r test equal = (bytes_eq-Decides a b).0 (not_not (bytes_eq a b) (sym test ∙ equal))
