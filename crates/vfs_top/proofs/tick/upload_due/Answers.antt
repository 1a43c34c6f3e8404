use Rattle.std.proofs.Common.{◌∙◌, ◌<◌, ap, refl, reverse, subst, sym}
use Rattle.item_upload.specs.Whole.{is_saved}
use Rattle.run_words.specs.Words.{meaning}
use Rattle.writeback_queue.specs.declared.entry.QueueTerms.{QueueTerms}
use Rattle.writeback_queue.specs.Legal.{IsNothingDue}
use Rattle.one_session.specs.State.{State}
use Rattle.vfs_top.specs.declared.tick.Ticked.{Ticked}
use Rattle.vfs_top.proofs.Ticking.{counts_up, due_done, due_more, due_none, due_still}
use Rattle.vfs_top.proofs.tick.upload_due.Goals as goal

pub loop-alloc-init : goal.loop-alloc-init
loop-alloc-init g c = let is = c.none-ticked.ensures in (
  due_none g.F.CacheFile.tells g.R.Object.Object.tells (meaning c.args.run.now) c.args.by c.args.session.now (g.R.Remote.outside c.args.remote.now) c.none-ticked.result
      (ap (λ (t : Ticked). t.uploaded) is) (ap (λ (t : Ticked). t.failed) is) (ap (λ (t : Ticked). t.whole) is) c.requires.past c.requires.given c.requires.saved,
  ap (λ (t : Ticked). t.whole) is,
)

pub upload_next-requires-clause-later : goal.upload_next-requires-clause-later
upload_next-requires-clause-later g c = c.loop-alloc.invariant.0.past.files

pub upload_next-requires-clause-transfers : goal.upload_next-requires-clause-transfers
upload_next-requires-clause-transfers g c = subst (λ (terms : QueueTerms). 0 < terms.transfers) (sym (c.loop-alloc.invariant.0.terms ∙ c.requires.terms)) c.requires.transfers

pub upload_next-requires-clause-given : goal.upload_next-requires-clause-given
upload_next-requires-clause-given g c = c.loop-alloc.invariant.0.given

pub upload_next-requires-clause-saved : goal.upload_next-requires-clause-saved
upload_next-requires-clause-saved g c = c.loop-alloc.invariant.0.saved

pub loop-alloc-smaller : goal.loop-alloc-smaller
loop-alloc-smaller g c = let room = c.has_room.ensures c.loop-alloc-test.true in
    counts_up c.loop-alloc.ticked.uploaded c.loop-alloc.ticked.failed c.with-ticked.result.uploaded c.with-ticked.result.failed (is_saved c.in-Ok-Some.ended) room.0 room.1 c.with-ticked.ensures.uploaded c.with-ticked.ensures.failed

pub loop-alloc-preserved : goal.loop-alloc-preserved
loop-alloc-preserved g c = let o = g.R.Remote.outside c.args.remote.now in let o' = g.R.Remote.outside c.loop-alloc.remote in let o'' = g.R.Remote.outside c.upload_next.new.remote in (
  due_more g.F.CacheFile.tells g.R.Object.Object.tells (meaning c.args.run.now) c.args.by c.args.session.now c.loop-alloc.session c.upload_next.new.self o o' o'' c.loop-alloc.ticked c.with-ticked.result c.in-Ok-Some.ended c.requires.actor
      c.loop-alloc.invariant.0 c.loop-alloc.invariant.1 (rw c.in-Ok-Some.field-0-is at c.in-Ok-Some.ensures.sent) c.upload_next.ensures.fits c.upload_next.ensures.given c.upload_next.ensures.saved c.upload_next.ensures.later c.upload_next.ensures.count
      c.with-ticked.ensures.uploaded c.with-ticked.ensures.failed c.with-ticked.ensures.whole,
  c.with-ticked.ensures.whole ∙ c.loop-alloc.invariant.1,
)

pub returns-in-Ok-None : goal.returns-in-Ok-None
returns-in-Ok-None g c = let o = g.R.Remote.outside c.args.remote.now in let o' = g.R.Remote.outside c.loop-alloc.remote in let o'' = g.R.Remote.outside c.upload_next.new.remote in
    let same = rw c.in-Ok-None.field-0-is at c.in-Ok-None.ensures.still in
    let still = rw c.in-Ok-None.field-0-is at c.in-Ok-None.ensures.uncalled in
    let none = rw c.in-Ok-None.field-0-is at c.in-Ok-None.ensures.none in
    record {
      due = due_done g.F.CacheFile.tells g.R.Object.Object.tells (meaning c.args.run.now) c.args.by c.args.session.now c.upload_next.new.self o o'' c.loop-alloc.ticked _
          (due_still g.F.CacheFile.tells g.R.Object.Object.tells (meaning c.args.run.now) c.args.by c.args.session.now c.loop-alloc.session c.upload_next.new.self o o' o'' c.loop-alloc.ticked c.loop-alloc.invariant.0 same still)
          (subst (λ (s : State). IsNothingDue (meaning c.args.run.now).write_back (reverse s.queue) c.args.by.now) (sym same)
          (subst (λ (terms : QueueTerms). IsNothingDue terms.write_back (reverse c.loop-alloc.session.queue) c.args.by.now) (c.loop-alloc.invariant.0.terms ∙ c.requires.terms) none)) refl refl;
    }

pub returns-in-Err : goal.returns-in-Err
returns-in-Err g c = record {
  due = due_still g.F.CacheFile.tells g.R.Object.Object.tells (meaning c.args.run.now) c.args.by c.args.session.now c.loop-alloc.session c.upload_next.new.self (g.R.Remote.outside c.args.remote.now) (g.R.Remote.outside c.loop-alloc.remote) (g.R.Remote.outside c.upload_next.new.remote)
      c.loop-alloc.ticked c.loop-alloc.invariant.0 c.in-Err.ensures.err c.in-Err.ensures.err_uncalled;
}

pub returns : goal.returns
returns g c = record { due = c.loop-alloc.invariant.0 }
