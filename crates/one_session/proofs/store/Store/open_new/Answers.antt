use Rattle.std.proofs.Common.{None, false, ◌∙◌, ap, sym, refl, inl, inr, arith, subst, ◌≡◌, ◌<◌, ◌+◌, ◌++◌, ◌∷◌, [], append-nil, length, reverse}
use Rattle.std.proofs.lemmas.List.{length-map}
use Rattle.vfs_names.specs.declared.refusal.Refusal.TheVariants as refusals
use Rattle.vfs_outside.specs.declared.tree.TreeKind.TheVariants as tree
use Rattle.vfs_outside.proofs.Told.{later_rose}
use Rattle.sparse_item.specs.Item.{Item}
use Rattle.session_script.specs.declared.call.Call.TheVariants as call
use Rattle.one_session.specs.Calls.{MayBegin, in_tree, refused_open}
use Rattle.one_session.specs.Causes.{ends_gone}
use Rattle.one_session.specs.Served.{Knows}
use Rattle.one_session.specs.Standing.{recorded}
use Rattle.one_session.specs.Start.{front_of, given_by, named_by, opening}
use Rattle.one_session.specs.State.{entries_in}
use Rattle.one_session.specs.Tree.{files_of, item_of}
use Rattle.one_session.specs.Views.{given_all, histories, item_in, stored}
use Rattle.one_session.specs.declared.plan.Met.{Met}
use Rattle.one_session.proofs.Begun.{named_turned}
use Rattle.one_session.proofs.Deciding.{begun_did, done_cause, fault_cause, fault_of, given_more, given_same, look_sound, lose_did, lose_settled, lose_sound, may_begin, met_new, missing_cause, missing_of, own_cause, refuse_cause, refuse_did, refuse_sound, remote_cause, unlisted_did}
use Rattle.one_session.proofs.Doing.{bare, starved_done}
use Rattle.one_session.proofs.Given.{given_made}
use Rattle.one_session.proofs.Keeping.{Goes, goes_new, none_past}
use Rattle.one_session.proofs.Meeting.{IsMet, gives_is, meets_object, plan_is, settled_look, settled_more}
use Rattle.one_session.proofs.Shelves.{added_new}
use Rattle.one_session.proofs.Stepping.{last_given, last_item, memory_not_disk, missing_not_disk, new_may, new_some, opened_stepped, refuses_not_disk, remote_not_disk, silent_stepped, unopened_cause, unopened_done, unopened_sound, unopened_stepped, which_one}
use Rattle.one_session.proofs.Trees.{looked_files, looked_item}
use Rattle.one_session.proofs.store.Store.open_new.Goals as goal

pub returns-in_default-clause-sound : goal.returns-in_default-clause-sound
returns-in_default-clause-sound g c = record {
  sound = rw (c.make.ensures.paths, (ap histories c.make.ensures.items)) c.requires.sound.sound;
  limit = c.requires.sound.limit ∙ sym c.make.ensures.limit;
  items = rw (c.make.ensures.items, c.make.ensures.limit) c.requires.sound.items;
  settled = c.requires.sound.settled;
}

pub returns-in_default-clause-given : goal.returns-in_default-clause-given
returns-in_default-clause-given g c = given_same g.O.Object.tells _ _ _ _ refl (ap given_all c.make.ensures.items)

pub returns-in_default-clause-cause : goal.returns-in_default-clause-cause
returns-in_default-clause-cause g c = λ line. remote_cause c.args.handle c.args.path.now c.args.how _ _ _ (g.R.Remote.outside c.args.remote.now) _ [] (omega arith) (omega arith) refl (omega arith) (omega arith) refl (own_cause c.args.path.now _ _ _ _ refusals.NoMemory c.bare.ensures.reply (inr refl))

pub returns-in_default-clause-stepped : goal.returns-in_default-clause-stepped
returns-in_default-clause-stepped g c = λ plan line. silent_stepped plan (g.D.CacheDisk.disk c.args.disk.now).faults (g.D.CacheDisk.disk c.args.disk.now).faults c.args.handle c.args.path.now c.args.how (recorded line c.bare.result) (record { before = c.args.self.now.files.items; after = c.make.new.files.items }) refusals.NoMemory c.bare.ensures.reply memory_not_disk c.bare.ensures.file

pub returns-in_default-of-clause-sound : goal.returns-in_default-of-clause-sound
returns-in_default-of-clause-sound g c = record {
  sound = rw (c.make.ensures.paths, (ap histories c.make.ensures.items)) c.requires.sound.sound;
  limit = c.requires.sound.limit ∙ sym c.make.ensures.limit;
  items = rw (c.make.ensures.items, c.make.ensures.limit) c.requires.sound.items;
  settled = c.requires.sound.settled;
}

pub returns-in_default-of-clause-given : goal.returns-in_default-of-clause-given
returns-in_default-of-clause-given g c = given_same g.O.Object.tells _ _ _ _ refl (ap given_all c.make.ensures.items)

pub returns-in_default-of-clause-cause : goal.returns-in_default-of-clause-cause
returns-in_default-of-clause-cause g c = λ line. remote_cause c.args.handle c.args.path.now c.args.how _ _ _ (g.R.Remote.outside c.args.remote.now) _ [] (omega arith) (omega arith) refl (omega arith) (omega arith) refl (own_cause c.args.path.now _ _ _ _ refusals.NoMemory c.bare-in_default-of.ensures.reply (inr refl))

pub returns-in_default-of-clause-stepped : goal.returns-in_default-of-clause-stepped
returns-in_default-of-clause-stepped g c = λ plan line. silent_stepped plan (g.D.CacheDisk.disk c.args.disk.now).faults (g.D.CacheDisk.disk c.args.disk.now).faults c.args.handle c.args.path.now c.args.how (recorded line c.bare-in_default-of.result) (record { before = c.args.self.now.files.items; after = c.make.new.files.items }) refusals.NoMemory c.bare-in_default-of.ensures.reply memory_not_disk c.bare-in_default-of.ensures.file

pub returns-in-Err-NotFound-clause-sound : goal.returns-in-Err-NotFound-clause-sound
returns-in-Err-NotFound-clause-sound g c = record {
  sound = rw (c.make.ensures.paths, (ap histories c.make.ensures.items), c.refuse.ensures.entries, c.in-Err-NotFound.ensures.err) (refuse_sound c.args.by _ c.in-Ok-of.names.own refusals.NotFound _ _ _ c.requires.actor c.requires.sound.sound);
  limit = c.refuse.ensures.limit ∙ c.refresh.ensures.limit ∙ c.requires.sound.limit ∙ sym c.make.ensures.limit;
  items = rw (c.make.ensures.items, c.make.ensures.limit) c.requires.sound.items;
  settled = λ path. settled_more _ _ _ path c.refuse.ensures.entries refl;
}

pub returns-in-Err-NotFound-clause-did : goal.returns-in-Err-NotFound-clause-did
returns-in-Err-NotFound-clause-did g c = λ handed line.
    unlisted_did (Knows g.F.CacheFile.tells g.O.Object.tells handed) c.args.by _ _ _ c.args.handle c.args.path.now c.args.how _ refusals.NotFound c.requires.actor (inl refl) c.in-Err-NotFound.ensures.err c.refuse.ensures.reply c.refuse.ensures.place c.refuse.ensures.file c.requires.closed c.in-Err-NotFound.ensures.unlisted
    (c.refuse.ensures.entries ∙ ap (λ p. c.refresh.new.tree.entries ++ refused_open c.args.by p refusals.NotFound ∷ []) c.in-Ok-of.ensures.own) (ap histories c.make.ensures.items) refl c.make.ensures.limit

pub returns-in-Err-NotFound-clause-given : goal.returns-in-Err-NotFound-clause-given
returns-in-Err-NotFound-clause-given g c = given_same g.O.Object.tells _ _ _ _ c.refresh.ensures.handed (ap given_all c.make.ensures.items)

pub returns-in-Err-NotFound-clause-cause : goal.returns-in-Err-NotFound-clause-cause
returns-in-Err-NotFound-clause-cause g c = λ line. remote_cause c.args.handle c.args.path.now c.args.how _ _ _ (g.R.Remote.outside c.refresh.new.remote) _ [] c.refresh.ensures.faults c.refresh.ensures.changes c.refresh.ensures.handed (omega arith) (omega arith) refl (missing_cause c.args.path.now _ _ _ _ c.refuse.ensures.reply (missing_of c.in-Err-NotFound.field-0 c.in-Err-NotFound.field-0-is c.in-Err-NotFound.ensures.causes))

pub returns-in-Err-NotFound-clause-stepped : goal.returns-in-Err-NotFound-clause-stepped
returns-in-Err-NotFound-clause-stepped g c = λ plan line. silent_stepped plan (g.D.CacheDisk.disk c.args.disk.now).faults (g.D.CacheDisk.disk c.args.disk.now).faults c.args.handle c.args.path.now c.args.how (recorded line c.refuse.result) (record { before = c.args.self.now.files.items; after = c.make.new.files.items }) refusals.NotFound c.refuse.ensures.reply missing_not_disk c.refuse.ensures.file

pub returns-in-Err-RemoteFault-clause-sound : goal.returns-in-Err-RemoteFault-clause-sound
returns-in-Err-RemoteFault-clause-sound g c = record {
  sound = rw (c.make.ensures.paths, (ap histories c.make.ensures.items), c.refuse-in-Err-RemoteFault.ensures.entries, c.in-Err-RemoteFault.ensures.err) (refuse_sound c.args.by _ c.in-Ok-of.names.own refusals.RemoteFault _ _ _ c.requires.actor c.requires.sound.sound);
  limit = c.refuse-in-Err-RemoteFault.ensures.limit ∙ c.refresh.ensures.limit ∙ c.requires.sound.limit ∙ sym c.make.ensures.limit;
  items = rw (c.make.ensures.items, c.make.ensures.limit) c.requires.sound.items;
  settled = λ path. settled_more _ _ _ path c.refuse-in-Err-RemoteFault.ensures.entries refl;
}

pub returns-in-Err-RemoteFault-clause-did : goal.returns-in-Err-RemoteFault-clause-did
returns-in-Err-RemoteFault-clause-did g c = λ handed line.
    unlisted_did (Knows g.F.CacheFile.tells g.O.Object.tells handed) c.args.by _ _ _ c.args.handle c.args.path.now c.args.how _ refusals.RemoteFault c.requires.actor (inr refl) c.in-Err-RemoteFault.ensures.err c.refuse-in-Err-RemoteFault.ensures.reply c.refuse-in-Err-RemoteFault.ensures.place c.refuse-in-Err-RemoteFault.ensures.file c.requires.closed c.in-Err-RemoteFault.ensures.unlisted
    (c.refuse-in-Err-RemoteFault.ensures.entries ∙ ap (λ p. c.refresh.new.tree.entries ++ refused_open c.args.by p refusals.RemoteFault ∷ []) c.in-Ok-of.ensures.own) (ap histories c.make.ensures.items) refl c.make.ensures.limit

pub returns-in-Err-RemoteFault-clause-given : goal.returns-in-Err-RemoteFault-clause-given
returns-in-Err-RemoteFault-clause-given g c = given_same g.O.Object.tells _ _ _ _ c.refresh.ensures.handed (ap given_all c.make.ensures.items)

pub returns-in-Err-RemoteFault-clause-cause : goal.returns-in-Err-RemoteFault-clause-cause
returns-in-Err-RemoteFault-clause-cause g c = λ line. remote_cause c.args.handle c.args.path.now c.args.how _ _ _ (g.R.Remote.outside c.refresh.new.remote) _ [] c.refresh.ensures.faults c.refresh.ensures.changes c.refresh.ensures.handed (omega arith) (omega arith) refl (fault_cause c.args.path.now _ _ _ _ c.refuse-in-Err-RemoteFault.ensures.reply (fault_of c.in-Err-RemoteFault.field-0 c.in-Err-RemoteFault.field-0-is c.in-Err-RemoteFault.ensures.causes))

pub returns-in-Err-RemoteFault-clause-stepped : goal.returns-in-Err-RemoteFault-clause-stepped
returns-in-Err-RemoteFault-clause-stepped g c = λ plan line. silent_stepped plan (g.D.CacheDisk.disk c.args.disk.now).faults (g.D.CacheDisk.disk c.args.disk.now).faults c.args.handle c.args.path.now c.args.how (recorded line c.refuse-in-Err-RemoteFault.result) (record { before = c.args.self.now.files.items; after = c.make.new.files.items }) refusals.RemoteFault c.refuse-in-Err-RemoteFault.ensures.reply remote_not_disk c.refuse-in-Err-RemoteFault.ensures.file

pub returns-in-Err : goal.returns-in-Err
returns-in-Err g c = record {
  sound = record {
    sound = rw (c.make.ensures.paths, (ap histories c.make.ensures.items), c.in-Err.ensures.err) c.requires.sound.sound;
    limit = c.refresh.ensures.limit ∙ c.requires.sound.limit ∙ sym c.make.ensures.limit;
    items = rw (c.make.ensures.items, c.make.ensures.limit) c.requires.sound.items;
    settled = λ path. ap (λ l. ends_gone (reverse l) path) c.in-Err.ensures.err ∙ c.requires.sound.settled path;
  };
  lends = rw c.make.ensures.items c.requires.lends;
  faults = omega arith;
  later = rw (ap histories c.make.ensures.items) c.requires.later;
  did = λ handed line. bare (Knows g.F.CacheFile.tells g.O.Object.tells handed) c.args.by (call.Open c.args.handle c.args.path.now c.args.how) _ refusals.NoMemory _ _ c.bare-in-Err.ensures.reply c.bare-in-Err.ensures.tree c.bare-in-Err.ensures.file c.in-Err.ensures.err (ap histories c.make.ensures.items) refl c.make.ensures.limit
      (inr (inr (inr (inr (record { reply = c.bare-in-Err.ensures.reply; file = c.bare-in-Err.ensures.file }, c.requires.closed))))) (λ e. absurd (never e));
  given = given_same g.O.Object.tells _ _ _ _ c.refresh.ensures.handed (ap given_all c.make.ensures.items);
  cause = λ line. remote_cause c.args.handle c.args.path.now c.args.how _ _ _ (g.R.Remote.outside c.refresh.new.remote) _ [] c.refresh.ensures.faults c.refresh.ensures.changes c.refresh.ensures.handed (omega arith) (omega arith) refl (own_cause c.args.path.now _ _ _ _ refusals.NoMemory c.bare-in-Err.ensures.reply (inr refl));
  stepped = λ plan line. silent_stepped plan (g.D.CacheDisk.disk c.args.disk.now).faults (g.D.CacheDisk.disk c.args.disk.now).faults c.args.handle c.args.path.now c.args.how (recorded line c.bare-in-Err.result) (record { before = c.args.self.now.files.items; after = c.make.new.files.items }) refusals.NoMemory c.bare-in-Err.ensures.reply memory_not_disk c.bare-in-Err.ensures.file;
  queue = c.make.ensures.queue;
} where
  never : refusals.NoMemory ≡ refusals.HistoryFull → ⊥
  never e = cc

pub put_new-requires-clause-sound : goal.put_new-requires-clause-sound
put_new-requires-clause-sound g c = let listed = c.in-Ok-refresh.ensures.ok in
    record {
      sound = rw (c.make.ensures.paths, (ap histories c.make.ensures.items), listed.1) (look_sound c.args.by _ listed.0 _ _ _ c.requires.actor listed.2 c.requires.sound.sound);
      limit = c.refresh.ensures.limit ∙ c.requires.sound.limit ∙ sym c.make.ensures.limit;
      items = rw (c.make.ensures.items, c.make.ensures.limit) c.requires.sound.items;
      settled = λ path. ap (λ l. ends_gone (reverse l) path) listed.1 ∙ settled_look c.args.by c.args.self.now.tree.entries listed.0 path listed.2 (c.requires.sound.settled path);
    }

pub put_new-requires-clause-may : goal.put_new-requires-clause-may
put_new-requires-clause-may g c = let listed = c.in-Ok-refresh.ensures.ok in
    let met : Met = record { used = false; bound = false; held = None; shown = c.shows.result; create = c.args.how.create } in
    let m : IsMet met c.refresh.new.tree.entries c.args.path.now c.args.how [] = met_new c.args.by _ listed.0 c.refresh.new.tree.entries c.args.path.now c.args.how c.shows.result listed.1 listed.2 c.requires.absent c.shows.ensures in
    new_may g.O.Object.print_of c.shows.result c.args.how.create c.in-Begin.start (plan_is g.O.Object.print_of met (g.R.Remote.outside c.refresh.new.remote) (g.R.Remote.outside c.make_plan.new.remote) _ _ c.in-Begin.is c.in-Ok-make_plan.ensures.plans)

pub returns-in-Ok-put_new-clause-did : goal.returns-in-Ok-put_new-clause-did
returns-in-Ok-put_new-clause-did g c = λ handed line.
    let listed = c.in-Ok-refresh.ensures.ok in
    let met : Met = record { used = false; bound = false; held = None; shown = c.shows.result; create = c.args.how.create } in
    let m : IsMet met c.refresh.new.tree.entries c.args.path.now c.args.how [] = met_new c.args.by _ listed.0 c.refresh.new.tree.entries c.args.path.now c.args.how c.shows.result listed.1 listed.2 c.requires.absent c.shows.ensures in
    let counted : length (histories c.args.self.now.files.items) ≡ length c.make.new.files.items = length-map c.args.self.now.files.items stored ∙ ap length (sym c.make.ensures.items) in
    let none : entries_in (histories c.args.self.now.files.items) (length c.make.new.files.items) ≡ [] = none_past (histories c.args.self.now.files.items) (length c.make.new.files.items) (omega (arith, counted)) in
    let small : c.args.handle < length c.args.self.now.table.items = omega (arith, c.requires.sound.sound.size, c.ranges.handle) in
    let began = c.in-Ok-put_new.ensures.tree in
    begun_did g.O.Object.print_of (Knows g.F.CacheFile.tells g.O.Object.tells handed) c.args.by _ _ _ c.args.handle (length c.make.new.files.items) _ _ c.in-Ok-put_new.ensures.began.0.slot.calls c.args.path.now c.in-Ok-of.names.own c.args.how listed.0 c.refresh.new.tree.entries met c.in-Begin.start began.0 c.requires.actor c.in-Ok-put_new.ensures.reply c.in-Ok-put_new.ensures.in_tree c.in-Ok-put_new.ensures.in_file c.requires.closed small
    listed.1 listed.2 c.in-Ok-of.ensures.own (inr (ap (λ l. item_of l c.args.path.now) listed.1 ∙ looked_item c.args.by c.args.self.now.tree.entries listed.0 c.args.path.now listed.2 ∙ c.requires.absent, sym (ap files_of listed.1 ∙ looked_files c.args.by c.args.self.now.tree.entries listed.0 listed.2 ∙ c.requires.sound.sound.numbered ∙ counted)))
    (subst (λ i. Goes (histories c.args.self.now.files.items) (histories c.put_new.new.self.files.items) i (opening c.args.by c.args.how.access c.in-Ok-put_new.ensures.began.0.slot.calls (front_of g.O.Object.print_of c.in-Begin.start))) counted (subst (λ fs. Goes (histories c.args.self.now.files.items) fs (length (histories c.args.self.now.files.items)) (opening c.args.by c.args.how.access c.in-Ok-put_new.ensures.began.0.slot.calls (front_of g.O.Object.print_of c.in-Begin.start))) (ap (λ fs. fs ++ record { entries = (opening c.args.by c.args.how.access c.in-Ok-put_new.ensures.began.0.slot.calls (front_of g.O.Object.print_of c.in-Begin.start)); names = (named_by c.in-Ok-of.names.file c.in-Begin.start) } ∷ []) (sym (ap histories c.make.ensures.items)) ∙ sym (ap histories c.in-Ok-put_new.ensures.began.1 ∙ added_new c.make.new.files.items c.in-Ok-put_new.ensures.began.0 (opening c.args.by c.args.how.access c.in-Ok-put_new.ensures.began.0.slot.calls (front_of g.O.Object.print_of c.in-Begin.start)) (named_by c.in-Ok-of.names.file c.in-Begin.start) c.in-Ok-put_new.ensures.began.2.past (c.in-Ok-put_new.ensures.began.2.names_now ∙ named_turned c.in-Ok-of.names.file c.in-Begin.start))) (goes_new (histories c.args.self.now.files.items) (opening c.args.by c.args.how.access c.in-Ok-put_new.ensures.began.0.slot.calls (front_of g.O.Object.print_of c.in-Begin.start)) (named_by c.in-Ok-of.names.file c.in-Begin.start))))
    began.2 refl (omega (arith, ap length none))
    (subst (λ l. IsMet met c.refresh.new.tree.entries c.args.path.now c.args.how (reverse l)) (sym none) m) (plan_is g.O.Object.print_of met (g.R.Remote.outside c.refresh.new.remote) (g.R.Remote.outside c.make_plan.new.remote) _ _ c.in-Begin.is c.in-Ok-make_plan.ensures.plans) began.1 c.in-Ok-put_new.ensures.table (c.put_new.ensures.limit ∙ c.make.ensures.limit)

pub returns-in-Ok-put_new-clause-given : goal.returns-in-Ok-put_new-clause-given
returns-in-Ok-put_new-clause-given g c = λ given.
    given_made g.O.Object.tells _ _ _ _ _ _ _ (ap given_all c.in-Ok-put_new.ensures.began.1 ∙ last_given c.make.new.files.items c.in-Ok-put_new.ensures.began.0 (given_by g.O.Object.print_of g.O.Object.bytes c.in-Begin.start) c.in-Ok-put_new.ensures.began.2.pairs_now) c.refresh.ensures.handed (gives_is _ _ (g.R.Remote.outside c.refresh.new.remote) (g.R.Remote.outside c.make_plan.new.remote) _ _ c.in-Begin.is c.in-Ok-make_plan.ensures.gives) (ap given_all c.make.ensures.items) given

pub returns-in-Ok-put_new-clause-cause : goal.returns-in-Ok-put_new-clause-cause
returns-in-Ok-put_new-clause-cause g c = λ line.
    remote_cause c.args.handle c.args.path.now c.args.how _ _ _ (g.R.Remote.outside c.refresh.new.remote) _ (given_by g.O.Object.print_of g.O.Object.bytes c.in-Begin.start) c.refresh.ensures.faults c.refresh.ensures.changes c.refresh.ensures.handed c.make_plan.ensures.faults c.make_plan.ensures.changes (gives_is _ _ (g.R.Remote.outside c.refresh.new.remote) (g.R.Remote.outside c.make_plan.new.remote) _ _ c.in-Begin.is c.in-Ok-make_plan.ensures.gives)
    (done_cause c.args.path.now _ _ _ _ c.in-Ok-put_new.ensures.reply)

pub returns-in-Ok-put_new-clause-stepped : goal.returns-in-Ok-put_new-clause-stepped
returns-in-Ok-put_new-clause-stepped g c = λ plan line.
    let new = c.in-Ok-put_new.ensures.began.0 in
    let is : item_in c.put_new.new.self.files.items (length c.make.new.files.items) ≡ new = ap (λ l. item_in l (length c.make.new.files.items)) c.in-Ok-put_new.ensures.began.1 ∙ last_item c.make.new.files.items new in
    opened_stepped plan (g.D.CacheDisk.disk c.args.disk.now).faults (g.D.CacheDisk.disk c.put_new.new.disk).faults c.args.handle c.args.path.now c.args.how (recorded line c.in-Ok-put_new.outcome) (record { before = c.args.self.now.files.items; after = c.put_new.new.self.files.items }) (length c.make.new.files.items) _ c.args.by (front_of g.O.Object.print_of c.in-Begin.start) [] c.in-Ok-put_new.ensures.reply c.in-Ok-put_new.ensures.in_file
    (subst (λ (x : Item). x.log.past ≡ reverse (opening c.args.by c.args.how.access x.slot.calls (front_of g.O.Object.print_of c.in-Begin.start)) ++ []) (sym is) (c.in-Ok-put_new.ensures.began.2.past ∙ sym (append-nil (reverse (opening c.args.by c.args.how.access c.in-Ok-put_new.ensures.began.0.slot.calls (front_of g.O.Object.print_of c.in-Begin.start))))))

pub returns-in-Err-put_new-clause-sound : goal.returns-in-Err-put_new-clause-sound
returns-in-Err-put_new-clause-sound g c = unopened_sound g.F.CacheFile.tells c.args.by c.put_new.new.self (record c.put_new.new.self { tree = c.unopened.new.tree }) c.in-Ok-of.names.gone c.unopened.result.tree c.in-Ok-refresh.listed c.in-Err-put_new.why c.requires.actor c.put_new.ensures.sound
    c.unopened.ensures.fault c.unopened.ensures.starved c.unopened.ensures.limit refl refl refl (which_one c.in-Err-put_new.ensures.causes)

pub returns-in-Err-put_new-clause-did : goal.returns-in-Err-put_new-clause-did
returns-in-Err-put_new-clause-did g c = λ handed line.
    let listed = c.in-Ok-refresh.ensures.ok in
    let met : Met = record { used = false; bound = false; held = None; shown = c.shows.result; create = c.args.how.create } in
    let m : IsMet met c.refresh.new.tree.entries c.args.path.now c.args.how [] = met_new c.args.by _ listed.0 c.refresh.new.tree.entries c.args.path.now c.args.how c.shows.result listed.1 listed.2 c.requires.absent c.shows.ensures in
    unopened_done (Knows g.F.CacheFile.tells g.O.Object.tells handed) c.args.by _ _ _ c.args.handle c.args.path.now c.in-Ok-of.names.gone c.args.how listed.0 c.put_new.new.self.tree.entries c.in-Ok-refresh.listed c.in-Err-put_new.why c.requires.actor ((ap (λ t. t.entries) c.in-Err-put_new.ensures.still) ∙ listed.1) listed.2
    (subst (MayBegin c.args.path.now c.args.how) (sym (ap (λ t. t.entries) c.in-Err-put_new.ensures.still)) (may_begin g.O.Object.print_of met c.refresh.new.tree.entries c.args.path.now c.args.how [] c.in-Begin.start m (plan_is g.O.Object.print_of met (g.R.Remote.outside c.refresh.new.remote) (g.R.Remote.outside c.make_plan.new.remote) _ _ c.in-Begin.is c.in-Ok-make_plan.ensures.plans) (new_some g.O.Object.print_of c.shows.result c.args.how.create false c.in-Begin.start (plan_is g.O.Object.print_of met (g.R.Remote.outside c.refresh.new.remote) (g.R.Remote.outside c.make_plan.new.remote) _ _ c.in-Begin.is c.in-Ok-make_plan.ensures.plans)))) c.in-Ok-of.ensures.gone listed.3
    c.unopened.ensures.reply c.unopened.ensures.file c.unopened.ensures.fault c.unopened.ensures.starved c.requires.closed (ap histories c.in-Err-put_new.ensures.same_files ∙ (ap histories c.make.ensures.items)) c.in-Err-put_new.ensures.shut (c.put_new.ensures.limit ∙ c.make.ensures.limit) (which_one c.in-Err-put_new.ensures.causes)

pub returns-in-Err-put_new-clause-given : goal.returns-in-Err-put_new-clause-given
returns-in-Err-put_new-clause-given g c = given_more g.O.Object.tells _ _ _ (given_by g.O.Object.print_of g.O.Object.bytes c.in-Begin.start) _ _ c.refresh.ensures.handed (gives_is _ _ (g.R.Remote.outside c.refresh.new.remote) (g.R.Remote.outside c.make_plan.new.remote) _ _ c.in-Begin.is c.in-Ok-make_plan.ensures.gives) (ap given_all c.in-Err-put_new.ensures.same_files ∙ ap given_all c.make.ensures.items)

pub returns-in-Err-put_new-clause-cause : goal.returns-in-Err-put_new-clause-cause
returns-in-Err-put_new-clause-cause g c = λ line.
    remote_cause c.args.handle c.args.path.now c.args.how _ _ _ (g.R.Remote.outside c.refresh.new.remote) _ (given_by g.O.Object.print_of g.O.Object.bytes c.in-Begin.start) c.refresh.ensures.faults c.refresh.ensures.changes c.refresh.ensures.handed c.make_plan.ensures.faults c.make_plan.ensures.changes (gives_is _ _ (g.R.Remote.outside c.refresh.new.remote) (g.R.Remote.outside c.make_plan.new.remote) _ _ c.in-Begin.is c.in-Ok-make_plan.ensures.gives)
    (unopened_cause c.args.path.now _ _ _ _ c.in-Err-put_new.why c.unopened.ensures.reply (which_one c.in-Err-put_new.ensures.causes))

pub returns-in-Err-put_new-clause-stepped : goal.returns-in-Err-put_new-clause-stepped
returns-in-Err-put_new-clause-stepped g c = λ plan line.
    unopened_stepped plan (g.D.CacheDisk.disk c.args.disk.now).faults (g.D.CacheDisk.disk c.put_new.new.disk).faults c.args.handle c.args.path.now c.args.how (recorded line c.unopened.result) (record { before = c.args.self.now.files.items; after = c.put_new.new.self.files.items }) c.in-Err-put_new.why c.unopened.ensures.reply c.unopened.ensures.file (λ rose. inl rose) c.in-Err-put_new.ensures.causes

pub returns-in-Refuse-clause-sound : goal.returns-in-Refuse-clause-sound
returns-in-Refuse-clause-sound g c = let listed = c.in-Ok-refresh.ensures.ok in
    record {
      sound = rw (c.make.ensures.paths, (ap histories c.make.ensures.items), c.refuse-in-Refuse.ensures.entries, listed.1) (refuse_sound c.args.by _ c.in-Ok-of.names.own c.in-Refuse.why _ _ _ c.requires.actor (look_sound c.args.by _ listed.0 _ _ _ c.requires.actor listed.2 c.requires.sound.sound));
      limit = c.refuse-in-Refuse.ensures.limit ∙ c.refresh.ensures.limit ∙ c.requires.sound.limit ∙ sym c.make.ensures.limit;
      items = rw (c.make.ensures.items, c.make.ensures.limit) c.requires.sound.items;
      settled = λ path. settled_more _ _ _ path c.refuse-in-Refuse.ensures.entries refl;
    }

pub returns-in-Refuse-clause-did : goal.returns-in-Refuse-clause-did
returns-in-Refuse-clause-did g c = λ handed line.
    let listed = c.in-Ok-refresh.ensures.ok in
    let met : Met = record { used = false; bound = false; held = None; shown = c.shows.result; create = c.args.how.create } in
    let m : IsMet met c.refresh.new.tree.entries c.args.path.now c.args.how [] = met_new c.args.by _ listed.0 c.refresh.new.tree.entries c.args.path.now c.args.how c.shows.result listed.1 listed.2 c.requires.absent c.shows.ensures in
    refuse_did (Knows g.F.CacheFile.tells g.O.Object.tells handed) c.args.by _ _ _ c.args.handle c.args.path.now c.args.how met [] (g.R.Remote.outside c.refresh.new.remote) (g.R.Remote.outside c.make_plan.new.remote) listed.0 c.refresh.new.tree.entries c.in-Refuse.why c.requires.actor listed.1 listed.2 m (plan_is g.O.Object.print_of met (g.R.Remote.outside c.refresh.new.remote) (g.R.Remote.outside c.make_plan.new.remote) _ _ c.in-Refuse.is c.in-Ok-make_plan.ensures.plans)
    c.refuse-in-Refuse.ensures.reply c.refuse-in-Refuse.ensures.place c.refuse-in-Refuse.ensures.file c.requires.closed (c.refuse-in-Refuse.ensures.entries ∙ ap (λ p. c.refresh.new.tree.entries ++ refused_open c.args.by p c.in-Refuse.why ∷ []) c.in-Ok-of.ensures.own) (ap histories c.make.ensures.items) refl c.make.ensures.limit

pub returns-in-Refuse-clause-given : goal.returns-in-Refuse-clause-given
returns-in-Refuse-clause-given g c = given_more g.O.Object.tells _ _ _ (gives_is _ _ (g.R.Remote.outside c.refresh.new.remote) (g.R.Remote.outside c.make_plan.new.remote) _ _ c.in-Refuse.is c.in-Ok-make_plan.ensures.gives).0 _ _ c.refresh.ensures.handed (gives_is _ _ (g.R.Remote.outside c.refresh.new.remote) (g.R.Remote.outside c.make_plan.new.remote) _ _ c.in-Refuse.is c.in-Ok-make_plan.ensures.gives).1 (ap given_all c.make.ensures.items)

pub returns-in-Refuse-clause-cause : goal.returns-in-Refuse-clause-cause
returns-in-Refuse-clause-cause g c = λ line.
    let listed = c.in-Ok-refresh.ensures.ok in
    let met : Met = record { used = false; bound = false; held = None; shown = c.shows.result; create = c.args.how.create } in
    let m : IsMet met c.refresh.new.tree.entries c.args.path.now c.args.how [] = met_new c.args.by _ listed.0 c.refresh.new.tree.entries c.args.path.now c.args.how c.shows.result listed.1 listed.2 c.requires.absent c.shows.ensures in
    remote_cause c.args.handle c.args.path.now c.args.how _ _ _ (g.R.Remote.outside c.refresh.new.remote) _ (gives_is _ _ (g.R.Remote.outside c.refresh.new.remote) (g.R.Remote.outside c.make_plan.new.remote) _ _ c.in-Refuse.is c.in-Ok-make_plan.ensures.gives).0 c.refresh.ensures.faults c.refresh.ensures.changes c.refresh.ensures.handed c.make_plan.ensures.faults c.make_plan.ensures.changes (gives_is _ _ (g.R.Remote.outside c.refresh.new.remote) (g.R.Remote.outside c.make_plan.new.remote) _ _ c.in-Refuse.is c.in-Ok-make_plan.ensures.gives).1
    (refuse_cause c.args.by c.args.handle c.args.path.now c.args.how _ met [] (g.R.Remote.outside c.args.remote.now) (g.R.Remote.outside c.refresh.new.remote) (g.R.Remote.outside c.make_plan.new.remote) [] c.refresh.new.tree.entries _ c.refresh.ensures.faults m c.refuse-in-Refuse.ensures.place (ap (λ l. ends_gone (reverse l) c.args.path.now) listed.1 ∙ settled_look c.args.by c.args.self.now.tree.entries listed.0 c.args.path.now listed.2 (c.requires.sound.settled c.args.path.now)) c.in-Refuse.why (plan_is g.O.Object.print_of met (g.R.Remote.outside c.refresh.new.remote) (g.R.Remote.outside c.make_plan.new.remote) _ _ c.in-Refuse.is c.in-Ok-make_plan.ensures.plans) c.refuse-in-Refuse.ensures.reply (c.refuse-in-Refuse.ensures.entries ∙ ap (λ p. c.refresh.new.tree.entries ++ refused_open c.args.by p c.in-Refuse.why ∷ []) c.in-Ok-of.ensures.own))

pub returns-in-Refuse-clause-stepped : goal.returns-in-Refuse-clause-stepped
returns-in-Refuse-clause-stepped g c = λ plan line. silent_stepped plan (g.D.CacheDisk.disk c.args.disk.now).faults (g.D.CacheDisk.disk c.args.disk.now).faults c.args.handle c.args.path.now c.args.how (recorded line c.refuse-in-Refuse.result) (record { before = c.args.self.now.files.items; after = c.make.new.files.items }) c.in-Refuse.why c.refuse-in-Refuse.ensures.reply (refuses_not_disk (record { used = false; bound = false; held = None; shown = c.shows.result; create = c.args.how.create }) (g.R.Remote.outside c.refresh.new.remote) (g.R.Remote.outside c.make_plan.new.remote) c.in-Refuse.why (plan_is g.O.Object.print_of (record { used = false; bound = false; held = None; shown = c.shows.result; create = c.args.how.create }) (g.R.Remote.outside c.refresh.new.remote) (g.R.Remote.outside c.make_plan.new.remote) _ _ c.in-Refuse.is c.in-Ok-make_plan.ensures.plans)) c.refuse-in-Refuse.ensures.file

pub returns-in-Lose-clause-sound : goal.returns-in-Lose-clause-sound
returns-in-Lose-clause-sound g c = let listed = c.in-Ok-refresh.ensures.ok in
    record {
      sound = rw (c.make.ensures.paths, (ap histories c.make.ensures.items), c.lose.ensures.entries, listed.1) (lose_sound c.args.by _ c.in-Ok-of.names.own c.in-Ok-of.names.own refusals.NotFound _ _ _ c.requires.actor (look_sound c.args.by _ listed.0 _ _ _ c.requires.actor listed.2 c.requires.sound.sound));
      limit = c.lose.ensures.limit ∙ c.refresh.ensures.limit ∙ c.requires.sound.limit ∙ sym c.make.ensures.limit;
      items = rw (c.make.ensures.items, c.make.ensures.limit) c.requires.sound.items;
      settled = λ path. lose_settled c.args.by _ _ _ _ path refusals.NotFound c.lose.ensures.entries;
    }

pub returns-in-Lose-clause-did : goal.returns-in-Lose-clause-did
returns-in-Lose-clause-did g c = λ handed line.
    let listed = c.in-Ok-refresh.ensures.ok in
    let met : Met = record { used = false; bound = false; held = None; shown = c.shows.result; create = c.args.how.create } in
    let m : IsMet met c.refresh.new.tree.entries c.args.path.now c.args.how [] = met_new c.args.by _ listed.0 c.refresh.new.tree.entries c.args.path.now c.args.how c.shows.result listed.1 listed.2 c.requires.absent c.shows.ensures in
    lose_did (Knows g.F.CacheFile.tells g.O.Object.tells handed) c.args.by _ _ _ c.args.handle c.args.path.now c.args.how met [] listed.0 c.refresh.new.tree.entries c.requires.actor listed.1 listed.2 m (plan_is g.O.Object.print_of met (g.R.Remote.outside c.refresh.new.remote) (g.R.Remote.outside c.make_plan.new.remote) _ _ c.in-Lose.is c.in-Ok-make_plan.ensures.plans).0
    c.lose.ensures.reply c.lose.ensures.place c.lose.ensures.file c.requires.closed (c.lose.ensures.entries ∙ ap (λ p. c.refresh.new.tree.entries ++ in_tree c.args.by (tree.Gone p) ∷ refused_open c.args.by p refusals.NotFound ∷ []) c.in-Ok-of.ensures.own) (ap histories c.make.ensures.items) refl c.make.ensures.limit

pub returns-in-Lose-clause-given : goal.returns-in-Lose-clause-given
returns-in-Lose-clause-given g c = given_same g.O.Object.tells _ _ _ _ ((gives_is _ _ (g.R.Remote.outside c.refresh.new.remote) (g.R.Remote.outside c.make_plan.new.remote) _ _ c.in-Lose.is c.in-Ok-make_plan.ensures.gives) ∙ c.refresh.ensures.handed) (ap given_all c.make.ensures.items)

pub returns-in-Lose-clause-cause : goal.returns-in-Lose-clause-cause
returns-in-Lose-clause-cause g c = λ line.
    remote_cause c.args.handle c.args.path.now c.args.how _ _ _ (g.R.Remote.outside c.refresh.new.remote) _ [] c.refresh.ensures.faults c.refresh.ensures.changes c.refresh.ensures.handed c.make_plan.ensures.faults c.make_plan.ensures.changes (gives_is _ _ (g.R.Remote.outside c.refresh.new.remote) (g.R.Remote.outside c.make_plan.new.remote) _ _ c.in-Lose.is c.in-Ok-make_plan.ensures.gives)
    (missing_cause c.args.path.now _ _ _ _ c.lose.ensures.reply (later_rose _ _ _ c.refresh.ensures.changes (plan_is g.O.Object.print_of (record { used = false; bound = false; held = None; shown = c.shows.result; create = c.args.how.create }) (g.R.Remote.outside c.refresh.new.remote) (g.R.Remote.outside c.make_plan.new.remote) _ _ c.in-Lose.is c.in-Ok-make_plan.ensures.plans).1))

pub returns-in-Lose-clause-stepped : goal.returns-in-Lose-clause-stepped
returns-in-Lose-clause-stepped g c = λ plan line. silent_stepped plan (g.D.CacheDisk.disk c.args.disk.now).faults (g.D.CacheDisk.disk c.args.disk.now).faults c.args.handle c.args.path.now c.args.how (recorded line c.lose.result) (record { before = c.args.self.now.files.items; after = c.make.new.files.items }) refusals.NotFound c.lose.ensures.reply missing_not_disk c.lose.ensures.file

pub returns-in-Err-make_plan-clause-sound : goal.returns-in-Err-make_plan-clause-sound
returns-in-Err-make_plan-clause-sound g c = let listed = c.in-Ok-refresh.ensures.ok in
    record {
      sound = rw (c.make.ensures.paths, (ap histories c.make.ensures.items), listed.1) (look_sound c.args.by _ listed.0 _ _ _ c.requires.actor listed.2 c.requires.sound.sound);
      limit = c.refresh.ensures.limit ∙ c.requires.sound.limit ∙ sym c.make.ensures.limit;
      items = rw (c.make.ensures.items, c.make.ensures.limit) c.requires.sound.items;
      settled = λ path. ap (λ l. ends_gone (reverse l) path) listed.1 ∙ settled_look c.args.by c.args.self.now.tree.entries listed.0 path listed.2 (c.requires.sound.settled path);
    }

pub returns-in-Err-make_plan-clause-did : goal.returns-in-Err-make_plan-clause-did
returns-in-Err-make_plan-clause-did g c = λ handed line.
    let listed = c.in-Ok-refresh.ensures.ok in
    let met : Met = record { used = false; bound = false; held = None; shown = c.shows.result; create = c.args.how.create } in
    let m : IsMet met c.refresh.new.tree.entries c.args.path.now c.args.how [] = met_new c.args.by _ listed.0 c.refresh.new.tree.entries c.args.path.now c.args.how c.shows.result listed.1 listed.2 c.requires.absent c.shows.ensures in
    starved_done (Knows g.F.CacheFile.tells g.O.Object.tells handed) c.args.by _ _ _ c.args.handle c.args.path.now c.args.how listed.0 c.requires.actor c.starved.ensures.reply (c.starved.ensures.tree ∙ listed.3) c.starved.ensures.file c.requires.closed listed.2
    (subst (MayBegin c.args.path.now c.args.how) listed.1 (inl (meets_object met c.refresh.new.tree.entries c.args.path.now c.args.how [] m c.in-Err-make_plan.ensures.plans))) listed.1 (ap histories c.make.ensures.items) refl c.make.ensures.limit

pub returns-in-Err-make_plan-clause-given : goal.returns-in-Err-make_plan-clause-given
returns-in-Err-make_plan-clause-given g c = given_same g.O.Object.tells _ _ _ _ (c.in-Err-make_plan.ensures.gives ∙ c.refresh.ensures.handed) (ap given_all c.make.ensures.items)

pub returns-in-Err-make_plan-clause-cause : goal.returns-in-Err-make_plan-clause-cause
returns-in-Err-make_plan-clause-cause g c = λ line.
    remote_cause c.args.handle c.args.path.now c.args.how _ _ _ (g.R.Remote.outside c.refresh.new.remote) _ [] c.refresh.ensures.faults c.refresh.ensures.changes c.refresh.ensures.handed c.make_plan.ensures.faults c.make_plan.ensures.changes c.in-Err-make_plan.ensures.gives
    (own_cause c.args.path.now _ _ _ _ refusals.NoMemory c.starved.ensures.reply (inr refl))

pub returns-in-Err-make_plan-clause-stepped : goal.returns-in-Err-make_plan-clause-stepped
returns-in-Err-make_plan-clause-stepped g c = λ plan line. silent_stepped plan (g.D.CacheDisk.disk c.args.disk.now).faults (g.D.CacheDisk.disk c.args.disk.now).faults c.args.handle c.args.path.now c.args.how (recorded line c.starved.result) (record { before = c.args.self.now.files.items; after = c.make.new.files.items }) refusals.NoMemory c.starved.ensures.reply memory_not_disk c.starved.ensures.file
