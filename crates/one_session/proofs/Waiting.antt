-- Whether a file waits for an upload after each call on it.
use Rattle.std.proofs.Common.{◌≡◌, ◌⊎◌, ◌<◌, ◌≤◌, ℕ, zero, suc, ◌+◌, ◌-◌, ◌++◌, ◌∙◌, ◌&&◌, ap, append-nil, sym, refl, subst, inl, inr, arith, Bool, true, false, List, [], ◌∷◌, Result, Option, None, Some, Ok, Err, IfErr, IfOk, OnErr, OnOk, cond, eqb, get_or, length, nat_lt, not, reverse, set, true≢false}
use Rattle.std.specs.Prelude.{is_ok}
use Rattle.vfs_names.specs.Payload.{payload_len}
use Rattle.vfs_names.specs.declared.calls.Access.{Access}
use Rattle.vfs_names.specs.declared.fingerprint.Fingerprint.{Fingerprint}
use Rattle.vfs_names.specs.declared.payload.Payload.{Payload}
use Rattle.vfs_names.specs.declared.refusal.Refusal.{Refusal}
use Rattle.vfs_names.specs.declared.refusal.Refusal.TheVariants as refusals
use Rattle.vfs_names.specs.declared.refusal.Verb.{Verb}
use Rattle.vfs_names.specs.declared.refusal.Verb.TheVariants as verb
use Rattle.vfs_names.specs.declared.who.By.{By}
use Rattle.vfs_names.specs.declared.who.ItemId.{ItemId}
use Rattle.session_text.specs.declared.reply.Reply.{Reply}
use Rattle.session_text.specs.declared.reply.Reply.TheVariants as reply
use Rattle.item_core.specs.declared.entry.Entry.{Entry}
use Rattle.item_core.specs.declared.entry.FileKind.{FileKind}
use Rattle.item_core.specs.declared.entry.FileKind.TheVariants as file
use Rattle.item_core.specs.Effects.{is_closed, is_opened, raises}
use Rattle.item_core.specs.History.{count_of, is_dirty, is_modified, is_owed, opens_of}
use Rattle.item_image.specs.Entries.{made}
use Rattle.sparse_item.specs.Answers.{Enters, EntersRefusal, refused}
use Rattle.sparse_item.specs.Item.{Item}
use Rattle.sparse_item.specs.Reading.{EntersRefusedRead, refused_read}
use Rattle.writeback_queue.specs.declared.entry.QueueEntry.{QueueEntry}
use Rattle.writeback_queue.specs.declared.entry.QueueTerms.{QueueTerms}
use Rattle.writeback_queue.specs.History.{is_member}
use Rattle.one_session.specs.Books.{OpensBook}
use Rattle.one_session.specs.Calls.{in_file}
use Rattle.one_session.specs.Queued.{IsQueued, began_by, id_of, is_rest, news_at, news_of, owed_item, queue_news, rested_by, withdrawn_by}
use Rattle.one_session.specs.Start.{MayStart, front_of}
use Rattle.one_session.specs.State.{Step, item_in}
use Rattle.one_session.specs.declared.start.Start.{Start}
use Rattle.one_session.proofs.Owed.{last_owed, not_rest, other_owed, quiet_owed, raised_owed, start_owed, unwrote_owed, wrote_owed}
use Rattle.one_session.proofs.Queued.{owed_put, put, put_same, queued_along, rested_news, withdrawn_news}
use Rattle.one_session.proofs.Shelves.{item_is, seen_found, seen_item}

-- it waits or not as before, and the last handle wasn't closed
pub record IsCalmly (before after : List Entry) : Type 0 where
  pub owed : is_owed after ≡ is_owed before
  pub going : is_rest before after ≡ false

count_same : (such : FileKind → Bool) (e : Entry) (past : List Entry) → such e.kind ≡ false → count_of such past ≡ count_of such (e ∷ past)
count_same such e past h = sym (ap (λ b. cond b (count_of such past + 1) (count_of such past)) h)

-- no handle was opened or closed
steady : (e : Entry) (past : List Entry) → is_opened e.kind ≡ false → is_closed e.kind ≡ false → is_rest past (e ∷ past) ≡ false
steady e past o c = not_rest past (e ∷ past) (ap (λ n. n - count_of is_closed past) (count_same is_opened e past o) ∙ ap (λ n. count_of is_opened (e ∷ past) - n) (count_same is_closed e past c))

pub unchanged : (past : List Entry) → IsCalmly past past
unchanged past = record { owed = refl; going = not_rest past past refl }

-- an entry of a read or a refusal
noted : (by : By) (at : ℕ) (v : Verb) (why : Refusal) (past : List Entry) → IsCalmly past (made by at (file.Refused v why) ∷ past)
noted by at v why past = let e = made by at (file.Refused v why) in record { owed = quiet_owed e past refl refl refl; going = steady e past refl refl }

pub read_calmly : (by : By) (at pos len : ℕ) (past after : List Entry) → after ≡ made by at (file.Read pos len) ∷ past → IsCalmly past after
read_calmly by at pos len past after e = subst (IsCalmly past) (sym e) (let x = made by at (file.Read pos len) in record { owed = quiet_owed x past refl refl refl; going = steady x past refl refl })

-- a refused call adds nothing, or says so
abbrev IsSaid : By → ℕ → Verb → Refusal → List Entry → Type 0
IsSaid by at v why added = (added ≡ []) ⊎ (added ≡ made by at (file.Refused v why) ∷ [])

read_said : (by : By) (at : ℕ) (why : Refusal) → IsSaid by at verb.Read why (refused_read by at why)
read_said by at refusals.NotFound = inl refl
read_said by at refusals.Exists = inl refl
read_said by at refusals.IsDir = inl refl
read_said by at refusals.NotDir = inl refl
read_said by at refusals.NotEmpty = inl refl
read_said by at refusals.BadHandle = inl refl
read_said by at refusals.NotReadable = inl refl
read_said by at refusals.NotWritable = inl refl
read_said by at refusals.TableFull = inl refl
read_said by at refusals.InUse = inl refl
read_said by at refusals.Unsupported = inl refl
read_said by at refusals.TooBig = inl refl
read_said by at refusals.RemoteFault = inr refl
read_said by at refusals.DiskFault = inr refl
read_said by at refusals.HistoryFull = inl refl
read_said by at refusals.NoMemory = inl refl
read_said by at (refusals.Stale held found) = inr refl

change_said : (by : By) (at : ℕ) (v : Verb) (why : Refusal) → IsSaid by at v why (refused by at v why)
change_said by at v refusals.NotFound = inl refl
change_said by at v refusals.Exists = inl refl
change_said by at v refusals.IsDir = inl refl
change_said by at v refusals.NotDir = inl refl
change_said by at v refusals.NotEmpty = inl refl
change_said by at v refusals.BadHandle = inl refl
change_said by at v refusals.NotReadable = inl refl
change_said by at v refusals.NotWritable = inl refl
change_said by at v refusals.TableFull = inl refl
change_said by at v refusals.InUse = inl refl
change_said by at v refusals.Unsupported = inl refl
change_said by at v refusals.TooBig = inl refl
change_said by at v refusals.RemoteFault = inl refl
change_said by at v refusals.DiskFault = inr refl
change_said by at v refusals.HistoryFull = inl refl
change_said by at v refusals.NoMemory = inl refl
change_said by at v (refusals.Stale held found) = inl refl

said : (by : By) (at : ℕ) (v : Verb) (why : Refusal) (added past after : List Entry) → IsSaid by at v why added → after ≡ added ++ past → IsCalmly past after
said by at v why added past after (inl h) e = subst (IsCalmly past) (sym (e ∙ ap (λ l. l ++ past) h)) (unchanged past)
said by at v why added past after (inr h) e = subst (IsCalmly past) (sym (e ∙ ap (λ l. l ++ past) h)) (noted by at v why past)

-- a read leaves it so
pub reads : {T : Type 0} (by : By) (pos len : ℕ) (was is : Item) (r : Result T Refusal) → OnOk r (Enters by (file.Read pos len) was is) → IfErr r (EntersRefusedRead by was is) → IsCalmly was.log.past is.log.past
reads by pos len was is (Ok x) ok err = read_calmly by is.slot.calls pos len was.log.past is.log.past ok
reads by pos len was is (Err why) ok err = said by is.slot.calls verb.Read why (refused_read by is.slot.calls why) was.log.past is.log.past (read_said by is.slot.calls why) err

refusal_calmly : (by : By) (v : Verb) (was is : Item) (why : Refusal) → EntersRefusal by v was is why → IsCalmly was.log.past is.log.past
refusal_calmly by v was is why err = said by is.slot.calls v why (refused by is.slot.calls v why) was.log.past is.log.past (change_said by is.slot.calls v why) err

-- what a call leaves that began a version, or not
pub record Begins (began : Bool) (before after : List Entry) : Type 0 where
  pub yes : began ≡ true → is_owed after ≡ false
  pub no : began ≡ false → is_owed after ≡ is_owed before
  pub going : is_rest before after ≡ false

calm_begins : (before after : List Entry) → IsCalmly before after → Begins false before after
calm_begins before after c = record { yes = λ e. absurd (cc); no = λ e. c.owed; going = c.going }

-- a write
wrote : (e : Entry) (past : List Entry) (pos n : ℕ) (payload : Payload) → e.kind ≡ file.Write pos payload → n ≡ payload_len payload → Begins (nat_lt 0 n) past (e ∷ past)
wrote e past pos n payload is count = record {
  yes = λ h. wrote_owed e past pos payload is (some n (payload_len payload) count h);
  no = λ h. unwrote_owed e past pos payload is (none n (payload_len payload) count h);
  going = steady e past (ap is_opened is) (ap is_closed is);
} where
  some : (n m : ℕ) → n ≡ m → nat_lt 0 n ≡ true → 0 < m
  some n m e h = grind (arith, e, h)

  none : (n m : ℕ) → n ≡ m → nat_lt 0 n ≡ false → m ≡ 0
  none n m e h = grind (arith, e, h)

pub writes : (by : By) (at pos : ℕ) (payload : Payload) (was is : Item) (r : Result ℕ Refusal) → IfOk r (λ n. n ≡ payload_len payload) → OnOk r (is.log.past ≡ made by at (file.Write pos payload) ∷ was.log.past)
    → IfErr r (EntersRefusal by verb.Write was is) → Begins (began_by r) was.log.past is.log.past
writes by at pos payload was is (Ok n) count ok err = subst (Begins (nat_lt 0 n) was.log.past) (sym ok) (wrote (made by at (file.Write pos payload)) was.log.past pos n payload refl count)
writes by at pos payload was is (Err why) count ok err = calm_begins was.log.past is.log.past (refusal_calmly by verb.Write was is why err)

-- a change of size
sized : (e : Entry) (past : List Entry) (size : ℕ) → e.kind ≡ file.SetSize size → Begins true past (e ∷ past)
sized e past size is = record { yes = λ h. raised_owed e past (ap is_closed is) (ap raises is); no = λ h. absurd (cc); going = steady e past (ap is_opened is) (ap is_closed is) }

pub sizes : (by : By) (size : ℕ) (was is : Item) (r : Result (Unit {0}) Refusal) → OnOk r (Enters by (file.SetSize size) was is) → IfErr r (EntersRefusal by verb.Size was is) → Begins (is_ok r) was.log.past is.log.past
sizes by size was is (Ok x) ok err = subst (Begins true was.log.past) (sym ok) (sized (made by is.slot.calls (file.SetSize size)) was.log.past size refl)
sizes by size was is (Err why) ok err = calm_begins was.log.past is.log.past (refusal_calmly by verb.Size was is why err)

-- what a close leaves that was the last of a changed file, or not
pub record Rests (rests : Bool) (before after : List Entry) : Type 0 where
  pub yes : rests ≡ true → (is_owed after ≡ true) × (is_rest before after ≡ true)
  pub no : rests ≡ false → is_owed after ≡ is_owed before
  pub going : rests ≡ false → is_owed after ≡ true → is_rest before after ≡ false

unchanged_owed : (past : List Entry) → is_dirty past ≡ false → is_owed past ≡ false
unchanged_owed past e = ap (λ d. d && not (is_modified past)) e

pub closes : (by : By) (at : ℕ) (past : List Entry) (dirty last : Bool) → dirty ≡ is_dirty past → last ≡ eqb (opens_of past) 1 → Rests (last && dirty) past (made by at file.Closed ∷ past)
closes by at past true true d l = record {
  yes = λ h. (last_owed by at past (sym l) ∙ sym d, shut_last (count_of is_opened past) (count_of is_closed past) (sym l));
  no = λ h. absurd (cc);
  going = λ h. absurd (cc);
} where
  shut_last : (opened closed : ℕ) → eqb (opened - closed) 1 ≡ true → nat_lt 0 (opened - closed) && eqb (opened - (closed + 1)) 0 ≡ true
  shut_last opened closed e = grind (arith, e)
closes by at past false true d l = record {
  yes = λ h. absurd (cc);
  no = λ h. last_owed by at past (sym l) ∙ sym d ∙ sym (unchanged_owed past (sym d));
  going = λ h e. absurd (true≢false (sym e ∙ last_owed by at past (sym l) ∙ sym d));
}
closes by at past dirty false d l = record {
  yes = λ h. absurd (cc);
  no = λ h. other_owed by at past (sym l);
  going = λ h e. shut_other (count_of is_opened past) (count_of is_closed past) (sym l);
} where
  shut_other : (opened closed : ℕ) → eqb (opened - closed) 1 ≡ false → nat_lt 0 (opened - closed) && eqb (opened - (closed + 1)) 0 ≡ false
  shut_other opened closed e = grind (arith, e)

-- an open leaves it so
pub opens : {O S T : Type 0} (print_of : O → Fingerprint) (kept : Type 0) (by : By) (access : Access) (start : Start O S) (names : List (List ℕ)) (pairs : List (Fingerprint × List ℕ)) (was is : Item) (r : Result T Refusal)
    → MayStart print_of start was.log.past → OpensBook kept by access (front_of print_of start) names pairs was is r → is_owed is.log.past ≡ is_owed was.log.past
opens print_of kept by access start names pairs was is (Ok x) may did = ap is_owed did.ok ∙ start_owed print_of by access is.slot.calls start was.log.past may
opens print_of kept by access start names pairs was is (Err why) may did = ap is_owed did.err

-- the file that was indexed, and the files with another in its place
module _ (items shelf : List Item) (seen : items ≡ shelf) (i : ℕ) (old : Item) (inside : i < length shelf) (is : old ≡ get_or items i old) where
  in_items : i < length items
  in_items = omega (arith, ap length seen, inside)

  pub seen_owed : is_owed old.log.past ≡ owed_item items i
  seen_owed = ap (λ (x : Item). is_owed x.log.past) (sym (item_is items i old in_items is))

  pub put_queued : (terms : QueueTerms) (q : List QueueEntry) (new : Item) → IsQueued terms (put (owed_item items) i (is_owed new.log.past)) q → IsQueued terms (owed_item (set items i new)) q
  put_queued terms q new s = queued_along terms (put (owed_item items) i (is_owed new.log.past)) (owed_item (set items i new)) q (owed_put items i new in_items) s

  pub same_queued : (terms : QueueTerms) (q : List QueueEntry) (new : Item) → is_owed new.log.past ≡ is_owed old.log.past → IsQueued terms (owed_item items) q → IsQueued terms (owed_item (set items i new)) q
  same_queued terms q new same s = put_queued terms q new
      (queued_along terms (owed_item items) (put (owed_item items) i (is_owed new.log.past)) q (λ n. put_same (owed_item items) i (is_owed new.log.past) n (sym (same ∙ seen_owed))) s)

  -- what was entered is what the change of the file enters, told of the files before the call and after it
  module _ (terms : QueueTerms) (q q' : List QueueEntry) (s : IsQueued terms (owed_item items) q) (by : By) (new : Item) where
    told : q ++ queue_news terms.write_back by i old.log.past new.log.past ≡ q ++ queue_news terms.write_back by i (item_in shelf i).log.past (item_in (set items i new) i).log.past
    told = ap (λ (x : Item). q ++ queue_news terms.write_back by i x.log.past new.log.past) (sym (seen_item items shelf seen i old inside is))
        ∙ ap (λ (x : Item). q ++ queue_news terms.write_back by i (item_in shelf i).log.past x.log.past) (sym (seen_found items shelf seen i old inside is new))

    pub begun_news : (began : Bool) → Begins began old.log.past new.log.past → q' ≡ q ++ withdrawn_by by i began (is_member (reverse q) (id_of i))
        → q' ≡ q ++ queue_news terms.write_back by i (item_in shelf i).log.past (item_in (set items i new) i).log.past
    begun_news began facts entered = entered ∙ ap (λ l. q ++ l) (withdrawn_news terms (owed_item items) q s by i old.log.past new.log.past seen_owed began facts.yes facts.no facts.going) ∙ told

    pub shut_news : (rests : Bool) → Rests rests old.log.past new.log.past → q' ≡ q ++ rested_by rests terms.write_back by i (is_member (reverse q) (id_of i))
        → q' ≡ q ++ queue_news terms.write_back by i (item_in shelf i).log.past (item_in (set items i new) i).log.past
    shut_news rests facts entered = entered ∙ ap (λ l. q ++ l) (rested_news terms (owed_item items) q s by i old.log.past new.log.past seen_owed rests facts.yes facts.no facts.going) ∙ told

pub ok_anyway : {T E : Type 0} {P : Type 0} (r : Result T E) → P → OnOk r P
ok_anyway (Ok x) p = p
ok_anyway (Err e) p = tt

-- a refused call began no version, and enters nothing
pub unwritten : (by : By) (item : ℕ) (q q' : List QueueEntry) (was : Bool) (r : Result ℕ Refusal) → q' ≡ q ++ withdrawn_by by item (began_by r) was → OnErr r (q' ≡ q)
unwritten by item q q' was (Ok n) e = tt
unwritten by item q q' was (Err why) e = e ∙ append-nil q

pub unsized : (by : By) (item : ℕ) (q q' : List QueueEntry) (was : Bool) (r : Result (Unit {0}) Refusal) → q' ≡ q ++ withdrawn_by by item (is_ok r) was → OnErr r (q' ≡ q)
unsized by item q q' was (Ok x) e = tt
unsized by item q q' was (Err why) e = e ∙ append-nil q

-- what a call enters in the queue, by its reply
pub news_refused : (write_back : ℕ) (by : By) (r : Reply) (place : Option (ItemId × ℕ)) (why : Refusal) (step : Step) → r ≡ reply.Refused why → news_of write_back by r place step ≡ []
news_refused write_back by r place why step e = ap (λ r. news_of write_back by r place step) e

at_file : (write_back : ℕ) (by : By) (item k : ℕ) (place : Option (ItemId × ℕ)) (step : Step) → place ≡ Some (id_of item, k) → news_at write_back by place step ≡ queue_news write_back by item (item_in step.before item).log.past (item_in step.after item).log.past
at_file write_back by item k place step e = ap (λ p. news_at write_back by p step) e

pub news_done : (write_back : ℕ) (by : By) (r : Reply) (place : Option (ItemId × ℕ)) (item k : ℕ) (step : Step) → r ≡ reply.Done → place ≡ Some (id_of item, k) → news_of write_back by r place step ≡ queue_news write_back by item (item_in step.before item).log.past (item_in step.after item).log.past
news_done write_back by r place item k step e f = ap (λ r. news_of write_back by r place step) e ∙ at_file write_back by item k place step f

pub news_wrote : (write_back : ℕ) (by : By) (r : Reply) (place : Option (ItemId × ℕ)) (item k n : ℕ) (step : Step) → r ≡ reply.Wrote n → place ≡ Some (id_of item, k) → news_of write_back by r place step ≡ queue_news write_back by item (item_in step.before item).log.past (item_in step.after item).log.past
news_wrote write_back by r place item k n step e f = ap (λ r. news_of write_back by r place step) e ∙ at_file write_back by item k place step f

-- nothing was entered, where nothing was to be
pub enters_nothing : (q q' more : List QueueEntry) → q' ≡ q → more ≡ [] → q' ≡ q ++ more
enters_nothing q q' more same none = same ∙ sym (append-nil q) ∙ ap (λ l. q ++ l) (sym none)
