-- The histories go phase by phase.
use Rattle.std.proofs.Common.{◌≡◌, ◌≤◌, ◌++◌, ℕ, List, [], ◌∷◌, reverse, arith, refl, subst, sym}
use Rattle.std.proofs.lemmas.Grind.{reverse_onto}
use Rattle.std.proofs.lemmas.List.{reverse-reverse}
use Rattle.std.specs.List.{AllByRecursion}
use Rattle.vfs_outside.specs.declared.tree.TreeEntry.{TreeEntry}
use Rattle.item_core.specs.Legal.{IsTimely}
use Rattle.item_core.specs.declared.entry.Entry.{Entry}
use Rattle.one_session.specs.Served.{file_phase, tree_phase}
use Rattle.one_session.specs.State.{History}
use Rattle.one_session.specs.Whole.{IsWhole, IsWholeFile}
use Rattle.one_session.proofs.Makers.{all_append, all_mono, all_no_later, all_reverse}
use Rattle.vfs_top.specs.Phases.{AreByPhase, IsByPhase}

-- what was done in one phase goes by phase
level : {E : Type 0} (phase : E → ℕ) (n : ℕ) (es : List E) → AllByRecursion (λ (e : E). phase e ≡ n) es → IsByPhase phase es
level {E} phase n [] p = tt
level {E} phase n (e ∷ es) p = (all_mono (λ (x : E). phase x ≡ n) (λ (x : E). phase e ≤ phase x) (λ x q. omega (arith, q, p.0)) es p.1, level phase n es p.1)

-- and so it does behind what was done in no later one
pub by_phase_append : {E : Type 0} (phase : E → ℕ) (n : ℕ) (xs ys : List E) → IsByPhase phase xs → AllByRecursion (λ (x : E). phase x ≤ n) xs → AllByRecursion (λ (y : E). phase y ≡ n) ys → IsByPhase phase (xs ++ ys)
by_phase_append {E} phase n [] ys p q r = level phase n ys r
by_phase_append {E} phase n (x ∷ xs) ys p q r =
    (all_append (λ (y : E). phase x ≤ phase y) xs ys p.0 (all_mono (λ (y : E). phase y ≡ n) (λ (y : E). phase x ≤ phase y) (λ y e. omega (arith, e, q.0)) ys r), by_phase_append phase n xs ys p.1 q.1 r)

past_phases : (past : List Entry) → IsTimely past → IsByPhase file_phase (reverse past)
past_phases [] t = tt
past_phases (e ∷ older) t =
    subst (IsByPhase file_phase) (sym (reverse_onto older e []))
    (by_phase_append file_phase e.by.who.phase (reverse older) (e ∷ []) (past_phases older t.1) (all_reverse (λ (x : Entry). file_phase x ≤ e.by.who.phase) older (all_no_later older e.by t.0 t.1)) (refl, tt))

file_phases : (file : History) → IsWholeFile 1 file → IsByPhase file_phase file.entries
file_phases file w = subst (IsByPhase file_phase) (reverse-reverse file.entries) (past_phases (reverse file.entries) w.timely)

pub by_phase : (tree : List TreeEntry) (files : List History) → IsByPhase tree_phase tree → IsWhole 1 tree files → AreByPhase tree files
by_phase tree files ordered w = record { in_tree = ordered; in_files = all_mono (IsWholeFile 1) (λ (file : History). IsByPhase file_phase file.entries) file_phases files w.each }
