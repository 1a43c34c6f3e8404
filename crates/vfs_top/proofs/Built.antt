-- The lines of a script that was read can be done, and there are few enough.
use Rattle.std.proofs.Common.{◌≡◌, ◌≢◌, ℕ, suc, ◌+◌, ◌<◌, ◌≤◌, ◌==◌, ◌&&◌, Bool, true, false, if◌then◌else◌, List, [], ◌∷◌, ap, arith, eqb-true, length, refl, subst, sym}
use Rattle.std.specs.Str.Lines.{lines}
use Rattle.vfs_names.specs.declared.calls.Access.{Access}
use Rattle.vfs_names.specs.declared.calls.Access.TheVariants as access
use Rattle.vfs_names.specs.declared.calls.How.{How}
use Rattle.session_script.specs.Built.{may_read, is_built_call, is_plain_open}
use Rattle.session_script.specs.Calls.{AreArguments}
use Rattle.session_script.specs.Script.{AreLines, Does, is_quiet, lines_of, numbered}
use Rattle.session_script.specs.declared.call.Call.{Call}
use Rattle.session_script.specs.declared.call.Call.TheVariants as call
use Rattle.session_script.specs.declared.call.Line.{Line}
use Rattle.session_script.specs.declared.call.What.{What}
use Rattle.session_script.specs.declared.call.What.TheVariants as what
use Rattle.one_session.specs.Served.{IsServable}
use Rattle.vfs_top.specs.Going.{CanDo, CanDoAll}
use Rattle.vfs_top.specs.Script.{IsAllowed}

left_holds : (a b : Bool) → a && b ≡ true → a ≡ true
left_holds true b e = refl
left_holds false b e = e

right_holds : (a b : Bool) → a && b ≡ true → b ≡ true
right_holds true b e = e
right_holds false b e = cc

reads_of : (a : Access) → may_read a ≡ true → a ≢ access.Write
reads_of access.Read e = λ w. cc
reads_of access.Write e = cc
reads_of access.Both e = λ w. cc

reads_in : (how : How) → is_plain_open how ≡ true → how.access ≢ access.Write
reads_in how e = reads_of how.access (left_holds _ _ (left_holds _ _ (left_holds _ _ e)))

servable : (c : Call) (arguments : List (List ℕ)) → AreArguments arguments c → is_built_call c ≡ true → IsServable c
servable (call.Open h path how) arguments a e = (reads_in how (left_holds _ _ e), a.3.0)
servable (call.Read h pos len) arguments a e = tt
servable (call.Write h pos payload) arguments a e = tt
servable (call.Size h size) arguments a e = tt
servable (call.Close h) arguments a e = tt
servable (call.Stat path) arguments a e = cc
servable (call.List path) arguments a e = cc
servable (call.MakeDir path) arguments a e = cc
servable (call.RemoveDir path) arguments a e = cc
servable (call.Unlink path) arguments a e = cc
servable (call.Rename from to) arguments a e = cc

can_do : (n : ℕ) (text : List ℕ) (asked : What) → Does n text asked → CanDo n asked
can_do n text (what.Call c) d = (sym d.line.words.0, eqb-true c.session 1 (left_holds _ _ d.built), servable c.call d.line.words.2 d.line.words.3 (right_holds (c.session == 1) _ d.built))
can_do n text (what.Advance ms) d = tt
can_do n text what.Tick d = cc (d.built)
can_do n text what.Clean d = cc (d.built)
can_do n text what.Poll d = cc (d.built)
can_do n text what.Join d = tt
can_do n text what.Restart d = cc (d.built)

can_do_in : (texts : List (ℕ × List ℕ)) (lines : List Line) → AreLines texts lines → CanDoAll lines
can_do_in [] [] d = tt
can_do_in [] (line ∷ lines) d = absurd d
can_do_in (text ∷ texts) [] d = absurd d
can_do_in (text ∷ texts) (line ∷ lines) d =
    (let P : ℕ → Type 0 = λ n. CanDo n line.what in subst P (sym d.0) (can_do text.0 text.1 line.what d.1), can_do_in texts lines d.2)

pub can_do_all : (text : List ℕ) (script : List Line) → IsAllowed text script → CanDoAll script
can_do_all text script a = can_do_in (lines_of text) script a.says

count_lines : (texts : List (ℕ × List ℕ)) (lines : List Line) → AreLines texts lines → length lines ≡ length texts
count_lines [] [] d = refl
count_lines [] (line ∷ lines) d = absurd d
count_lines (text ∷ texts) [] d = absurd d
count_lines (text ∷ texts) (line ∷ lines) d = ap suc (count_lines texts lines d.2)

numbered_one : (quiet : Bool) (n : ℕ) (text : List ℕ) (others : List (ℕ × List ℕ)) (most : ℕ) → length others ≤ most → length (if quiet then others else (n, text) ∷ others) ≤ suc most
numbered_one true n text others most le = omega (arith, le)
numbered_one false n text others most le = omega (arith, le)

few_numbered : (n : ℕ) (texts : List (List ℕ)) → length (numbered n texts) ≤ length texts
few_numbered n [] = omega arith
few_numbered n (text ∷ texts) = numbered_one (is_quiet text) n text (numbered (n + 1) texts) (length texts) (few_numbered (n + 1) texts)

pub few_lines : (text : List ℕ) (script : List Line) → IsAllowed text script → length script ≤ 65536
few_lines text script a = omega (arith, count_lines (lines_of text) script a.says, few_numbered 1 (lines text), not_above (length (lines text)) a.few)
  where
    not_above : (n : ℕ) → ¬ (65536 < n) → n ≤ 65536
    not_above n h = grind arith
