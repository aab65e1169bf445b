-- Workers on a desk: from what its passes have seen to the store, and to the journal that the store was opened from.
use Rattle.std.proofs.Common.{◌≡◌, ◌≢◌, ℕ, ◌+◌, ◌-◌, ◌<◌, ◌≤◌, ◌^◌, Bool, List, [], ◌++◌, reverse, Option, Some, None, IfSome, refl, sym, ◌∙◌, ap, subst, inl, inr, arith}
use Rattle.std.specs.Prelude.{◌⊎◌, IsTrue}
use Rattle.std.specs.Option.{option_map}
use Rattle.std.proofs.lemmas.List.{reverse-reverse}
use Rattle.cat_io.specs.Causes.{Rose}
use Rattle.cat_core.specs.RecordLaws.{stands_now}
use Rattle.cat_core.specs.Stored.{Stored, opened_of}
use Rattle.cat_desk.specs.Log.{Since, WasGiven}
use Rattle.cat_desk.specs.Marks.{IsGiven}
use Rattle.cat_desk.specs.Pass.{DeskId, Remembers, mark_of, number_of, seen, spare_of}
use Rattle.cat_desk.specs.declared.pass.Pass.{Pass}
use Rattle.cat_keeper.specs.Bases.{bases_in}
use Rattle.cat_model.specs.declared.log_entry.LogEntry.{LogEntry}
use Rattle.cat_model.specs.Book.{Book}
use Rattle.cat_model.specs.Mark.{FailedAppend, Mark}
use Rattle.cat_model.specs.Turns.{Opened}
use Rattle.cat_work.specs.Passes.{IsReady, book_of, state_of}
use Rattle.cat_serve.specs.declared.serving.Served.{Served}
use Rattle.cat_serve.specs.declared.serving.Served.TheVariants as serveds
use Rattle.cat_serve.specs.Sessions.{Readings}
use Rattle.cat_serve.specs.Workers.{ComesBack, Ends as BothEnds, ServesAll}
use Rattle.cat_cli.specs.Hosting.{Comes, CountStays, Heard, Hosts, IsAsBefore, IsListening, Service, WorksOn}
use Rattle.cat_cli.specs.HostingLaws.{all_begin}
use Rattle.cat_cli.specs.Journals.{KeepsFormat, opened_format}
use Rattle.cat_cli.specs.Opening.{IsStored}
use Rattle.cat_cli.specs.Serving.{Hosted, OpenedOnly, bases_made, flying_at}
use Rattle.cat_cli.specs.Surviving.{IsBegun, IsStoodOn, KeepsThrough, LeavesLog, images_of}
use Rattle.cat_cli.specs.Unadded.{IsStillSo}
use Rattle.cat_cli.specs.Shares.{CallerWasTold, all_shares}
use Rattle.cat_cli.proofs.Shares.{all_among, all_made, all_of}
use Rattle.cat_cli.proofs.Counted.{opens_so}
use Rattle.cat_cli.proofs.Surviving.{survives}
use Rattle.cat_cli.proofs.Unbased.{counts_between, had_are, told_bases, unbased}
use Rattle.cat_cli.proofs.Unspoiled.{are_left, let_go}
use Rattle.cat_cli.proofs.ToldFaults.{all_told}

-- ---- by how serving ended

served_all : serveds.End ≡ serveds.NoMemory → ⊥
served_all e = cc

served_some : serveds.ListenerFault ≡ serveds.NoMemory → ⊥
served_some e = cc

none_failed : serveds.End ≡ serveds.ListenerFault → ⊥
none_failed e = cc

none_began : serveds.NoMemory ≡ serveds.ListenerFault → ⊥
none_began e = cc

-- what follows from both outcomes follows from what came
pub comes_on : {C : Type 0} (so so' none none' : Type 0) (service : Service) (a b : Heard C) (end : Served) → (so → so') → (none → none') → Comes so none service a b end → Comes so' none' service a b end
comes_on so so' none none' service a b serveds.End f g c = (f c.0, c.1)
comes_on so so' none none' service a b serveds.ListenerFault f g (inl c) = inl (f c.0, c.1)
comes_on so so' none none' service a b serveds.ListenerFault f g (inr c) = inr (g c.0, c.1)
comes_on so so' none none' service a b serveds.NoMemory f g c = (g c.0, c.1)

-- ---- on a desk

-- a listener that was told to listen is m, and then b
module _ {In Out : Type 0} (ends : BothEnds In Out) (service : Service) (a m b : Heard (In × Out)) (desk : DeskId) (p : Pass) (ahead : Option Readings) (q : Pass) (now : Option Readings)
    (tells : m.tells ≡ a.tells) (waiting : m.waiting ≡ a.waiting) (returned : m.returned ≡ a.returned) (rejoined : m.rejoined ≡ a.rejoined) (out : m.out ≡ a.out) (twins : m.twins ≡ a.twins) (dealt : m.dealt ≡ a.dealt) (level : m.faults ≡ a.faults)
    (heard : IsTrue a.tells → m.listens ≡ Some (service.address, service.connections))
    (stays : b.listens ≡ m.listens) (away : IsTrue m.tells → (b.out ≡ m.out) × (b.twins ≡ m.twins)) where
  still_tells : IsTrue a.tells → IsTrue m.tells
  still_tells t = subst (λ (x : Bool). IsTrue x) (sym tells) t

  listening : IsListening service a b
  listening = record { listens = λ t. stays ∙ heard t; out = λ t. (away (still_tells t)).0 ∙ out; twins = λ t. (away (still_tells t)).1 ∙ twins }

  works : ServesAll ends desk service.attempts service.workers m.tells m.waiting b.waiting m.returned b.returned m.rejoined b.rejoined m.dealt b.dealt m.faults b.faults p ahead q now → WorksOn ends service a b desk p ahead q now
  works s = record {
    listening = listening;
    serves =
        subst (λ (z : Bool × List (In × Out) × List (In × Out) × List (List (In × Out)) × List (List (In × Out)) × ℕ). ServesAll ends desk service.attempts service.workers z.0 z.1 b.waiting z.2 b.returned z.3 b.rejoined z.4 b.dealt z.5 b.faults p ahead q now)
        (λ i. (tells i, waiting i, returned i, rejoined i, dealt i, level i)) s;
  }

  count_from : CountStays m.faults b.faults → CountStays a.faults b.faults
  count_from same small = same (subst (λ (n : ℕ). n < 2 ^ 64) (sym level) small) ∙ level

  rose_from : Rose m.faults b.faults → Rose a.faults b.faults
  rose_from rose = subst (λ (n : ℕ). Rose n b.faults) level rose

  pub comes : (paused : Type 0) (end : Served)
      → (end ≢ serveds.NoMemory → ServesAll ends desk service.attempts service.workers m.tells m.waiting b.waiting m.returned b.returned m.rejoined b.rejoined m.dealt b.dealt m.faults b.faults p ahead q now)
      → (end ≡ serveds.End → IsTrue m.tells → b.waiting ≡ [])
      → (end ≡ serveds.NoMemory → Remembers p q × paused × (IsTrue m.tells → (b.waiting ≡ m.waiting) × (b.returned ≡ m.returned) × ComesBack m.dealt b.dealt m.rejoined b.rejoined))
      → (end ≡ serveds.ListenerFault → Rose m.faults b.faults) → (end ≢ serveds.ListenerFault → CountStays m.faults b.faults)
      → Comes (WorksOn ends service a b desk p ahead q now) (Remembers p q × paused) service a b end
  comes paused serveds.End serves done none cause same =
      (works (serves served_all), record { none_waits = λ t. done refl (still_tells t); level = count_from (same none_failed) })
  comes paused serveds.ListenerFault serves done none cause same = inl (works (serves served_some), rose_from (cause refl))
  comes paused serveds.NoMemory serves done none cause same =
      let n = none refl in (
        (n.0, n.1),
        record {
          listening = listening;
          waiting = λ t. (n.2 (still_tells t)).0 ∙ waiting;
          returned = λ t. (n.2 (still_tells t)).1 ∙ returned;
          back = λ t. subst (λ (z : List (List (In × Out)) × List (List (In × Out))). ComesBack z.0 b.dealt z.1 b.rejoined) (λ i. (dealt i, rejoined i)) (n.2 (still_tells t)).2;
          level = count_from (same none_began);
        },
      )

-- ---- on the store that the desk holds

same_standing : (desk : DeskId) (p q : Pass) → Remembers p q → book_of desk q ≡ book_of desk p
same_standing desk p q r = λ i. record { state = state_of desk (r.seen i); draft = (r.mark i).draft; log = reverse (r.seen i); base = desk.opened.state }

pub hosts : {In Out K : Type 0} (ends : BothEnds In Out) (service : Service) (a b : Heard (In × Out)) (desk : DeskId) (p : Pass) (ahead : Option Readings) (q : Pass) (now : Option Readings) (old new : Stored K) (paused : Type 0) (end : Served)
    → service.workers ≤ 64 → number_of p ≡ 1 → spare_of p ≡ 4294967294 → desk.opened ≡ opened_of old → desk.marked ≡ old.mark → (desk.begun ≡ reverse old.book.log) × (seen p ≡ desk.begun) → book_of desk p ≡ old.book → mark_of p ≡ old.mark → IsReady desk q → new.book ≡ book_of desk q → new.mark ≡ mark_of q → opened_of new ≡ desk.opened
    → (0 < spare_of q → Since (4294967296 - spare_of q) desk.begun (seen q) × IsGiven (4294967296 - spare_of q) desk.marked (mark_of q))
    → Comes (WorksOn ends service a b desk p ahead q now) (Remembers p q × paused) service a b end → Comes (Hosts ends service a b ahead now old new) (IsAsBefore old new × paused) service a b end
hosts {In} {Out} {K} ends service a b desk p ahead q now old new paused end few number spare opened marked begun book mark ready left_book left_mark left_opened given c =
    comes_on (WorksOn ends service a b desk p ahead q now) (Hosts ends service a b ahead now old new) (Remembers p q × paused) (IsAsBefore old new × paused) service a b end served spared c
  where
    some_left : WorksOn ends service a b desk p ahead q now → 0 < spare_of q
    some_left works = let s = works.serves.numbers in let count = works.serves.count in omega (arith, few, spare, s, count)

    -- the number that would be given next
    next : WorksOn ends service a b desk p ahead q now → 4294967296 - spare_of q ≡ service.workers + 1
    next works = let s = works.serves.numbers in let count = works.serves.count in omega (arith, few, spare, s, count)

    served : WorksOn ends service a b desk p ahead q now → Hosts ends service a b ahead now old new
    served works = record {
      desk = desk;
      first = p;
      last = q;
      opened = opened;
      begun = begun.0;
      saw = begun.1;
      mark_is = mark;
      number_is = number;
      splits = omega (arith, spare);
      works = works;
      legal = ready.legal;
      starts = ready.starts;
      given = subst (λ (n : ℕ). Since n desk.begun (seen q)) (next works) (given (some_left works)).0;
      marked = subst (λ (z : ℕ × Mark). IsGiven z.0 z.1 (mark_of q)) (λ i. (next works i, marked i)) (given (some_left works)).1;
      log_is = ap (λ (x : Book). x.log) left_book;
      opened_is = left_opened;
      fault_is = ap (λ (x : Mark). x.fault) left_mark;
      bases_is = ap (λ (x : Mark). x.bases) left_mark;
    }

    spared : Remembers p q × paused → IsAsBefore old new × paused
    spared r = (record { book = left_book ∙ same_standing desk p q r.0 ∙ book; opened = left_opened ∙ opened; mark = left_mark ∙ r.0.mark ∙ mark }, r.1)

-- ---- on the disk of the journal

if_fault : (fault : Option FailedAppend) (P : FailedAppend → Type 0) → ((x : FailedAppend) → fault ≡ Some x → P x) → IfSome fault P
if_fault None P so = tt
if_fault (Some x) P so = so x refl

-- the store of a journal's catalogue came back, and its disk was given back
module _ {In Out D K : Type 0} (ends : BothEnds In Out) (service : Service) (a b : Heard (In × Out)) (ahead now : Option Readings) (told : D → Option (List ℕ)) (may_leave : D → List ℕ → Type 0) (moment : D → ℕ) (left_since : D → ℕ → List ℕ → Type 0)
    (down : K → Option ℕ) (in_flight : K → Option (List ℕ)) (kept : K → Option (List (List ℕ))) (since : ℕ) (had : List (List ℕ)) (early : List ℕ → Type 0) (disk again : D) (old new : Stored K)
    (stored : IsStored (told disk) old.opened old.book (kept old.keeper) (down old.keeper)) (up : old.mark.fault ≡ None) (fresh : old.opened.faults ≡ 0)
    (begun : IsBegun since had early (told disk) (moment disk) (may_leave disk))
    (fallen : down new.keeper ≡ option_map (λ (x : FailedAppend). x.count) new.mark.fault)
    (flies : in_flight new.keeper ≡ option_map (λ (x : FailedAppend). x.payload) new.mark.fault)
    (bases : (old.mark.bases ≡ bases_in (kept old.keeper)) × (new.mark.bases ≡ bases_in (kept new.keeper)))
    (leaves : KeepsThrough since had early (may_leave again) (left_since again) kept in_flight new.keeper new.opened new.book (told again))
    (only_now : (d : D) (c : List ℕ) → left_since d (moment d) c → may_leave d c) (image : (d : D) (c : List ℕ) → told d ≡ Some c → may_leave d c) (disk_of : K → D) (start count : ℕ) (past : ℕ → List ℕ → Type 0) (began : List ℕ → Type 0) (shape : ℕ → Type 0)
    (stood : IsStoodOn start count past began shape (told disk) (moment disk) (may_leave disk) (left_since disk)) (back : again ≡ disk_of new.keeper)
    (still : IfSome (kept new.keeper) (IsStillSo start count past began (in_flight new.keeper) (moment (disk_of new.keeper)) (may_leave (disk_of new.keeper)) (left_since (disk_of new.keeper))))
    (marked : IfSome (told disk) (λ bytes. old.mark.format ≡ opened_format bytes) × (old.mark.base ≡ old.opened.state.place) × (old.mark.draft ≡ old.book.draft) × (old.mark.sweep ≡ None)) (shaped : KeepsFormat (told disk) (told again)) where
  abbrev Left : Opened → Option (List ℕ) → Type 0
  Left o flying = IfSome (told again) (LeavesLog since had early (may_leave again) (left_since again) o (reverse new.book.log) (kept new.keeper) flying)

  -- a fault is new
  is_new : (x : FailedAppend) → WasGiven (service.workers + 1) x.caller ⊎ (old.mark.fault ≡ Some x) → WasGiven (service.workers + 1) x.caller
  is_new x (inl was) = was
  is_new x (inr old_one) = absurd (let wrong : None ≡ Some x = sym up ∙ old_one in cc)

  hosted : (to : ℕ → Type 0) (stays : Type 0) → ((x : FailedAppend) → new.mark.fault ≡ Some x → to x.count) → (new.mark.fault ≡ None → stays) → Hosts ends service a b ahead now old new
      → Hosted ends to stays service a b ahead now (told disk) (told again) (images_of may_leave moment left_since disk again)
  hosted to stays counted level h =
      let added = h.given.0 in
      let grows : seen h.last ≡ reverse old.book.log ++ added = h.given.1 ∙ ap (λ (l : List LogEntry). l ++ added) h.begun in
      let log : reverse new.book.log ≡ reverse old.book.log ++ added = ap (λ (l : List LogEntry). reverse l) h.log_is ∙ reverse-reverse (seen h.last) ∙ grows in
      let flying : in_flight new.keeper ≡ flying_at h.last = flies ∙ ap (option_map (λ (x : FailedAppend). x.payload)) h.fault_is in
      let clean : (mark_of h.first).fault ≡ None = ap (λ (m : Mark). m.fault) h.mark_is ∙ up in
      record {
        payloads = stored.payloads;
        started = old.opened;
        book = old.book;
        begins = stored.begins;
        fresh = fresh;
        desk = h.desk;
        first = h.first;
        last = h.last;
        opened = h.opened;
        begun = h.begun;
        saw = h.saw;
        clean = clean;
        formed = subst (λ (m : Mark). IfSome (told disk) (λ bytes. m.format ≡ opened_format bytes)) (sym h.mark_is) marked.0;
        based = ap (λ (m : Mark). m.base) h.mark_is ∙ marked.1;
        counted = told_bases (told disk) (kept old.keeper) stored.payloads (mark_of h.first).bases stored.are (ap (λ (m : Mark). m.bases) h.mark_is ∙ bases.0);
        drafted = ap (λ (m : Mark). m.draft) h.mark_is ∙ marked.2;
        unswept = ap (λ (m : Mark). m.sweep) h.mark_is ∙ marked.3;
        number_is = h.number_is;
        splits = h.splits;
        works = h.works;
        sessions = all_begin ends h.desk service.attempts service.workers a.tells a.waiting b.waiting a.returned b.returned a.rejoined b.rejoined a.dealt b.dealt a.faults b.faults h.first ahead h.last now h.works.serves;
        legal = h.legal;
        added = added;
        grows = grows;
        theirs = all_of ends h.desk service.attempts h.works.serves h.number_is h.splits added h.given.2;
        made = all_made ends h.desk service.attempts h.works.serves added (h.given.1 ∙ ap (λ (l : List LogEntry). l ++ added) (sym h.saw));
        crash =
            survives since had early (moment disk) (may_leave disk) (may_leave again) (left_since again) old.opened (reverse old.book.log) added (reverse new.book.log) (kept new.keeper) (flying_at h.last) (bases_made h.first h.last) log
            (told disk) (told again) stored.payloads begun stored.begins.recovers stored.begins.total stored.spelled stored.begins.opened
            (counts_between (told disk) (kept old.keeper) (kept new.keeper) stored.payloads (mark_of h.first).bases (mark_of h.last).bases stored.are (ap (λ (m : Mark). m.bases) h.mark_is ∙ bases.0) (sym h.bases_is ∙ bases.1))
            (subst (λ (o : Opened). Left o (flying_at h.last)) (h.opened_is ∙ h.opened) (subst (Left new.opened) flying leaves));
        format_stays = shaped;
        cause = if_fault (mark_of h.last).fault (λ f. to f.count) (λ x is. counted x (h.fault_is ∙ is));
        level = λ none. level (h.fault_is ∙ none);
        told = if_fault (mark_of h.last).fault (λ f. CallerWasTold f (all_shares ends h.desk service.attempts h.works.serves)) (λ x is.
            all_told ends h.desk service.attempts h.works.serves x clean is (all_among ends h.desk service.attempts h.works.serves h.number_is h.splits x.caller (is_new x (h.marked.fault x is))));
      }

  -- no checkpoint was made, and no entry
  still_are : (t : Option (List ℕ)) → IfSome t (LeavesLog since had early (may_leave again) (left_since again) old.opened (reverse old.book.log) (kept new.keeper) None) → new.mark.bases ≡ old.mark.bases → IfSome t (λ bytes. IfSome (kept new.keeper) (λ l. l ≡ stored.payloads))
  still_are None left same = tt
  still_are (Some bytes) left same =
      subst (λ (k : Option (List (List ℕ))). IfSome k (λ l. l ≡ stored.payloads)) (sym left.are)
      (unbased (told disk) (kept old.keeper) (kept new.keeper) had stored.payloads left.payloads old.opened (reverse old.book.log) stored.are
      (had_are since had early (told disk) (moment disk) (may_leave disk) stored.payloads begun stored.begins.recovers) stored.spelled (sym bases.1 ∙ same ∙ bases.0) left.are left.goes_on (stands_now old.opened (reverse old.book.log) left.payloads left.stand))

  opened_only : (paused stays : Type 0) → (new.mark.fault ≡ None → stays) → IsAsBefore old new × paused → OpenedOnly paused stays (told disk) (told again) (images_of may_leave moment left_since disk again)
  opened_only paused stays level s =
      let none : new.mark.fault ≡ None = ap (λ (m : Mark). m.fault) s.0.mark ∙ up in
      let idle : in_flight new.keeper ≡ None = flies ∙ ap (option_map (λ (x : FailedAppend). x.payload)) none in
      let left : IfSome (told again) (LeavesLog since had early (may_leave again) (left_since again) old.opened (reverse old.book.log) (kept new.keeper) None) =
      subst (λ (x : Book). IfSome (told again) (LeavesLog since had early (may_leave again) (left_since again) old.opened (reverse x.log) (kept new.keeper) None)) s.0.book
      (subst (λ (o : Opened). Left o None) s.0.opened (subst (Left new.opened) idle leaves)) in
      let are = still_are (told again) left (ap (λ (m : Mark). m.bases) s.0.mark) in (
        old.book,
        record {
          opens = opens_so told may_leave moment left_since since had early disk again old.opened (reverse old.book.log) (kept new.keeper) stored.payloads old.book stored.begins begun left are;
          same =
              let_go told may_leave moment left_since start count past began shape disk stood only_now image again (kept new.keeper) (in_flight new.keeper) idle
              (are_left since had early (may_leave again) (left_since again) old.opened (reverse old.book.log) None (told disk) (told again) (kept new.keeper) stored.payloads stored.begins.recovers left are)
              (subst (λ (d : D). IfSome (kept new.keeper) (IsStillSo start count past began (in_flight new.keeper) (moment d) (may_leave d) (left_since d))) (sym back) still);
        },
        s.1,
        level none,
      )

  -- by how serving ended; where no append failed stays is so
  pub comes_down : (paused : Type 0) (to : ℕ → Type 0) (stays : Type 0) (end : Served) → ((x : FailedAppend) → new.mark.fault ≡ Some x → to x.count) → (new.mark.fault ≡ None → stays) → Comes (Hosts ends service a b ahead now old new) (IsAsBefore old new × paused) service a b end
      → Comes (Hosted ends to stays service a b ahead now (told disk) (told again) (images_of may_leave moment left_since disk again)) (OpenedOnly paused stays (told disk) (told again) (images_of may_leave moment left_since disk again)) service a b end
  comes_down paused to stays end counted level c = comes_on _ _ _ _ service a b end (hosted to stays counted level) (opened_only paused stays level) c
