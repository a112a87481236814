-- What is read of octets that spell a frame of GOOSE, and what a good position of a block is.
use Rattle.std.proofs.Common.{◌≡◌, ℕ, zero, suc, Bool, true, if◌then◌else◌, Option, Some, None, List, [], ◌∷◌, slice_get, sym, refl, ap, ◌∙◌, subst, ◌≤◌, ◌+◌, ◌<◌, inl, inr, length, map, get_or, Contains, ap₂, arith}
use Rattle.std.proofs.lemmas.Option.{none-some, same_Some, slice_get-get_or, slice_get_within}
use Rattle.frame_core.specs.Apdu.{SpellsApdu, ether_type_of}
use Rattle.frame_core.specs.Envelope.{Word}
use Rattle.frame_core.specs.Frame.{SpellsFrame}
use Rattle.list_core.specs.declared.event.Event.{Event}
use Rattle.list_core.specs.declared.event.EventKind.{EventKind}
use Rattle.list_core.specs.declared.event.EventKind.TheVariants as kinds
use Rattle.frame_core.specs.declared.frame.Apdu.{Apdu}
use Rattle.frame_core.specs.declared.frame.Apdu.TheVariants as apdus
use Rattle.frame_core.specs.declared.frame.Frame.{Frame}
use Rattle.pdu_core.specs.declared.goose.GoosePdu.{GoosePdu}
use Rattle.block_core.specs.declared.block.Block.{Block}
use Rattle.subscribe_core.specs.declared.entry.Reason.{Reason}
use Rattle.subscribe_core.specs.declared.registers.Facts.{Facts}
use Rattle.subscribe_core.specs.Matching.{facts_of_frame, is_of, reason_of, facts_unless_refused}
use Rattle.subscribe_core.specs.EventsRead.{AreRead, Content, FrameRead, IsContent, IsRead, OfGoose, OfSampled, EventRead}
use Rattle.subscribe_core.specs.Sight.{facts_at, facts_of, trace_of_block}
use Rattle.subscribe_core.specs.Simulation.{is_other_kind, mode_at, takes_simulated}
use Rattle.subscribe_core.proofs.Readings.{read_one, read_length, reads_one}
use Rattle.joint_laws.specs.PublishedList.{Sent}
use Rattle.publish_core.specs.declared.control.Control.{Control}
use Rattle.publish_core.specs.Frames.{Change, Setup, change}
use Rattle.publish_core.specs.Numbers.{sequence_number, state_number}
use Rattle.publish_core.specs.Run.{Call, IsChange, NoWrap, trace_of_calls as published_trace}
use Rattle.publish_core.specs.Table.{step_at, step_of}
use Rattle.publish_core.proofs.GivesOne.{carried}
use Rattle.subscribe_core.specs.Laws.{IsIn, IsActOn}
use Rattle.joint_laws.specs.Stems.{IsOfRun, IsPublishedUnder, StemsFromRun, ComesAt, ChangeComesInTime}
use Rattle.joint_laws.proofs.exchange_lemmas.Changes.{number_of_change}
use Rattle.std.proofs.lemmas.Bool.{cases_order}
use Rattle.mms_data.specs.Data.{Data}
use Rattle.mms_data.specs.declared.time.UtcTime.{UtcTime}
use Rattle.subscribe_core.specs.declared.entry.Entry.{Entry}
use Rattle.subscribe_core.specs.declared.entry.Entry.TheVariants as says
use Rattle.subscribe_core.specs.computed.Content.{reading_of}
use Rattle.subscribe_core.specs.Entries.{AreEntriesAt, AreReadEntriesAt}
use Rattle.subscribe_core.specs.Epoch.{Acts, IsLastStart}
use Rattle.subscribe_core.specs.Apart.{AreApart}
use Rattle.subscribe_core.specs.State.{fresh_state}
use Rattle.subscribe_core.specs.computed.Steps.{run_events}
use Rattle.subscribe_core.proofs.Acted.{acts_are_told}
use Rattle.subscribe_core.proofs.Numbers.{acted_where_in_time, numbers_rise}
use Rattle.subscribe_core.proofs.Runs.{runs_are_whole}
use Rattle.joint_laws.specs.ExchangeLaws.{ActionsCarryWhatWasPublished, ActsOnChange, ChangesActedOn, EpochOfRun, trace_of_epoch}

-- the same APDU, whatever memory it stood in

abbrev pub plain : {A : Type 0} → GoosePdu A → GoosePdu (Unit {0})
plain p = record { gocb_ref = p.gocb_ref; live = p.live; dat_set = p.dat_set; go_id = p.go_id; t = p.t; st_num = p.st_num; sq_num = p.sq_num; simulation = p.simulation; conf_rev = p.conf_rev; nds_com = p.nds_com; members = p.members }

abbrev pub plain_frame : {A : Type 0} → Frame A → GoosePdu A → Frame (Unit {0})
plain_frame f q = record { destination = f.destination; source = f.source; tag = f.tag; app_id = f.app_id; reserved1 = f.reserved1; reserved2 = f.reserved2; apdu = apdus.Goose (plain q); trailer = f.trailer }

pub plain_spelled : {A : Type 0} (f : Frame A) (q : GoosePdu A) (o : List ℕ) → f.apdu ≡ apdus.Goose q → SpellsFrame f o → SpellsFrame (plain_frame f q) o
plain_spelled {A} f q o is s = record {
  tag = s.tag;
  ether_type = s.ether_type;
  app_id = s.app_id;
  size = s.size;
  reserved1 = s.reserved1;
  reserved2 = s.reserved2;
  apdu = s.apdu;
  parts = s.parts;
  to = s.to;
  from = s.from;
  tagged = s.tagged;
  typed = subst (λ (a : Apdu A). Word (ether_type_of a) s.ether_type) is s.typed;
  addressed = s.addressed;
  sized = s.sized;
  first = s.first;
  second = s.second;
  spelled = subst (λ (a : Apdu A). SpellsApdu a s.apdu) is s.spelled;
  fits = s.fits;
  short = s.short;
}

pdu_or : GoosePdu (Unit {0}) → Content → GoosePdu (Unit {0})
pdu_or p (OfGoose x) = x.pdu
pdu_or p _ = p

pub same_pdu : (x y : FrameRead) → OfGoose x ≡ OfGoose y → x.pdu ≡ y.pdu
unfolding pdu_or
same_pdu x y e = ap (pdu_or x.pdu) e

-- octets that spell a frame with this APDU are read as it
pub pdu_read : {A B : Type 0} (e : Event B) (r : EventRead) (x : FrameRead) (o : List ℕ) (f : Frame A) (q : GoosePdu A) → IsRead e r → r.content ≡ OfGoose x → e.kind ≡ kinds.Frame o → SpellsFrame f o → f.apdu ≡ apdus.Goose q → x.pdu ≡ plain q
pdu_read {A} {B} e r x o f q read goose kind s unit =
    let y : FrameRead = record { app_id = f.app_id; pdu = plain q } in
    let other : EventRead = record { moment = e.moment; content = OfGoose y } in
    let told : IsRead e other = record { moment = refl; content = subst (λ (k : EventKind B). IsContent k (OfGoose y)) (sym kind) (plain_frame f q, plain_spelled f q o unit s, refl, refl) } in
    let same : r ≡ other = read_one e r read ∙ sym (read_one e other told) in
    same_pdu x y (sym goose ∙ ap (λ (z : EventRead). z.content) same)

-- a reading in its place is that of an event
pub read_at : {A : Type 0} (events : List (Event A)) (readings : List EventRead) (i : ℕ) (r : EventRead) → AreRead events readings → slice_get readings i ≡ Some r → (e : Event A) × (slice_get events i ≡ Some e) × IsRead e r
read_at [] [] i r are at = absurd (none-some r at)
read_at (e ∷ es) (x ∷ rs) zero r are at = (e, refl, subst (λ (y : EventRead). IsRead e y) (same_Some x r at) are.0)
read_at (e ∷ es) (x ∷ rs) (suc i) r are at = read_at es rs i r are.1 at
read_at _ _ _ _ are _ = absurd are

pub goose_octets : {A : Type 0} (k : EventKind A) (x : FrameRead) → IsContent k (OfGoose x) → (o : List ℕ) × (k ≡ kinds.Frame o)
goose_octets (kinds.Frame o) x w = (o, refl)
goose_octets _ _ w = absurd w

-- a good position is that of a frame of GOOSE, and has its facts

frame_facts : {A : Type 0} (block : Block A) (mode taken : Bool) (x : FrameRead) (f : Facts) → facts_of block mode taken (OfGoose x) ≡ Some f → f ≡ facts_of_frame x
frame_facts block mode taken x f e = go (is_of x block) (reason_of (is_other_kind x mode taken) block x) e
  where
    go : (o : Bool) (r : Option Reason) → (if o then facts_unless_refused r (facts_of_frame x) else None) ≡ Some f → f ≡ facts_of_frame x
    go true None is = sym (same_Some (facts_of_frame x) f is)
    go _ _ is = absurd (none-some f is)

content_good : {A : Type 0} (block : Block A) (mode taken : Bool) (k : Content) (f : Facts) → facts_of block mode taken k ≡ Some f → (x : FrameRead) × (k ≡ OfGoose x)
content_good block mode taken (OfGoose x) f e = (x, refl)
content_good _ _ _ _ f e = absurd (none-some f e)

reading_good : {A : Type 0} (block : Block A) (mode taken : Bool) (o : Option EventRead) (f : Facts) → facts_at block mode taken o ≡ Some f → (r : EventRead) × (x : FrameRead) × (o ≡ Some r) × (r.content ≡ OfGoose x)
reading_good block mode taken None f e = absurd (none-some f e)
reading_good block mode taken (Some r) f e = let w = content_good block mode taken r.content f e in (r, w.0, refl, w.1)

pub good_goose : {A : Type 0} (block : Block A) (readings : List EventRead) (i : ℕ) (f : Facts) → (trace_of_block block readings).good i ≡ Some f → (r : EventRead) × (x : FrameRead) × (slice_get readings i ≡ Some r) × (r.content ≡ OfGoose x)
good_goose block readings i f e = reading_good block (mode_at readings i) (takes_simulated block readings i) (slice_get readings i) f e

pub good_facts : {A : Type 0} (block : Block A) (readings : List EventRead) (i : ℕ) (f : Facts) (r : EventRead) (x : FrameRead) → (trace_of_block block readings).good i ≡ Some f → slice_get readings i ≡ Some r → r.content ≡ OfGoose x → f ≡ facts_of_frame x
good_facts block readings i f r x e at goose =
    frame_facts block (mode_at readings i) (takes_simulated block readings i) x f
    (ap (facts_of block (mode_at readings i) (takes_simulated block readings i)) (sym goose) ∙
    (ap (facts_at block (mode_at readings i) (takes_simulated block readings i)) (sym at) ∙ e))

-- frames that are sent, as they are read

abbrev pub received : {A : Type 0} → ℕ → Apdu A → Content
received app_id (apdus.Goose q) = OfGoose (record { app_id = app_id; pdu = plain q })
received app_id (apdus.Sampled q) = OfSampled

abbrev pub readings_of : {A : Type 0} → List (Sent A) → List EventRead
readings_of [] = []
readings_of (s ∷ rest) = record { moment = s.moment; content = received s.frame.app_id s.frame.apdu } ∷ readings_of rest

-- ---- a frame of a run carries what was published under its status number

-- the APDU of a frame with these numbers
abbrev pub pdu_with : {A : Type 0} → Control A → Change → ℕ → ℕ → ℕ → GoosePdu A
pdu_with control change state sequence live = record {
  gocb_ref = control.gocb_ref;
  live = live;
  dat_set = control.dat_set;
  go_id = control.go_id;
  t = change.t;
  st_num = state;
  sq_num = sequence;
  simulation = control.simulation;
  conf_rev = control.conf_rev;
  nds_com = control.nds_com;
  members = change.values;
}

-- what is read in octets of the run is published under the number that is read
of_run : {A B : Type 0} (p : Setup A) (calls : List Call) (e : Event B) (r : EventRead) (x : FrameRead) (o : List ℕ) → 1 ≤ p.first → NoWrap p calls → IsOfRun p calls o → IsRead e r → r.content ≡ OfGoose x → e.kind ≡ kinds.Frame o → IsPublishedUnder p calls x.pdu.st_num (change x.pdu.t x.pdu.members)
of_run {A} p calls e r x o some no_wrap w read goose kind = record {
  c = c;
  call = at.0;
  is_change = subst (λ (y : Change). IsChange (published_trace calls) at.0 c y) (sym carries) at.2;
  numbered = ap (λ (y : GoosePdu (Unit {0})). y.st_num) pdu ∙ number_of_change p calls at.0 c handed_in some no_wrap at.2;
}
  where
    c : ℕ
    c = w.publishes.c

    k : ℕ
    k = w.publishes.k

    handed_in : Change
    handed_in = w.publishes.change

    at : (j : ℕ) × (j ≤ w.call) × IsChange (published_trace calls) j c handed_in
    at = carried w.publishes.gives

    q : GoosePdu A
    q = pdu_with p.control handed_in (state_number p.first c) (sequence_number k) (step_at p.table (step_of p.table k)).live_ms

    unit : w.received.apdu ≡ apdus.Goose q
    unit = w.same ∙ ap (λ (f : Frame A). f.apdu) w.publishes.is_frame

    pdu : x.pdu ≡ plain q
    pdu = pdu_read e r x o w.received q read goose kind w.spelled unit

    carries : change x.pdu.t x.pdu.members ≡ handed_in
    carries = ap (λ (y : GoosePdu (Unit {0})). change y.t y.members) pdu

-- so is every good frame of an epoch that stems from a run
pub good_published : {A B : Type 0} (block : Block B) (events : List (Event B)) (readings : List EventRead) (s : ℕ) (p : Setup A) (calls : List Call) → AreRead events readings → StemsFromRun block events readings s p calls → (i : ℕ) (f : Facts) (r : EventRead) (x : FrameRead) → IsIn (trace_of_block block readings) s i f → slice_get readings i ≡ Some r → r.content ≡ OfGoose x → IsPublishedUnder p calls x.pdu.st_num (change x.pdu.t x.pdu.members)
good_published {A} {B} block events readings s p calls are from i f r x good at goose =
    let e = read_at events readings i r are at in
    let o = goose_octets e.0.kind x (subst (IsContent e.0.kind) goose e.2.content) in
    of_run p calls e.0 r x o.0 from.some from.no_wrap (from.each i f e.0 o.0 good e.1 o.1) e.2 goose o.1

-- ---- the actions of an epoch that stems from one publisher's run

-- entries are those of the readings at hand

entries_read : {B : Type 0} (blocks : List (Block B)) (events : List (Event B)) (readings : List EventRead) (i : ℕ) (es : List (Entry B)) → AreRead events readings → AreEntriesAt blocks events i es → AreReadEntriesAt blocks readings i es
entries_read blocks events readings i es are w =
    subst (λ (rs : List EventRead). AreReadEntriesAt blocks rs i es) (reads_one events w.0 w.1 ∙ sym (reads_one events readings are)) w.2

entries_there : {B : Type 0} (blocks : List (Block B)) (events : List (Event B)) (readings : List EventRead) (i : ℕ) (r : EventRead) → AreRead events readings → slice_get readings i ≡ Some r → (es : List (Entry B)) × AreEntriesAt blocks events i es
entries_there {B} blocks events readings i r are at =
    let whole = runs_are_whole blocks events in
    let read : length readings ≡ length events = read_length events readings are in
    let below : i < length readings = slice_get_within readings i r at in
    let es : List (Entry B) = get_or (run_events (fresh_state blocks) (map reading_of events)) i [] in
    (es, whole.each i es (slice_get-get_or (run_events (fresh_state blocks) (map reading_of events)) i [] (omega arith)))

-- an action of the block at b says the number, the moment and the members of the frame that it acts on
record IsAction {B : Type 0} (block : Block B) (readings : List EventRead) (i number : ℕ) (t : UtcTime) (members : List Data) : Type 0 where
  acts : Acts (trace_of_block block readings) i
  reading : EventRead
  at : slice_get readings i ≡ Some reading
  frame : FrameRead
  goose : reading.content ≡ OfGoose frame
  number_is : frame.pdu.st_num ≡ number
  t_is : frame.pdu.t ≡ t
  members_are : frame.pdu.members ≡ members

action : {B : Type 0} (blocks : List (Block B)) (events : List (Event B)) (readings : List EventRead) (b : ℕ) (block : Block B) (i : ℕ) (es : List (Entry B)) (number sequence : ℕ) (t : UtcTime) (members : List Data) → AreApart blocks → slice_get blocks b ≡ Some block → AreRead events readings → AreEntriesAt blocks events i es → Contains es (says.Act b number sequence t members) → IsAction block readings i number t members
action {B} blocks events readings b block i es number sequence t members apart at are w has =
    let told = (acts_are_told blocks readings i es b number sequence t members apart (entries_read blocks events readings i es are w)).0 has in
    let same : told.block ≡ block = same_Some told.block block (sym told.at ∙ at) in
    record { acts = subst (λ (y : Block B). Acts (trace_of_block y readings) i) same told.acts; reading = told.event; at = told.read; frame = told.frame; goose = told.goose; number_is = cc; t_is = cc; members_are = cc }

in_epoch : {B : Type 0} (block : Block B) (readings : List EventRead) (i s : ℕ) (acts : Acts (trace_of_block block readings) i) → IsLastStart (trace_of_block block readings) i s → IsIn (trace_of_block block readings) s i acts.facts
in_epoch block readings i s acts epoch = record { good = acts.good; epoch = epoch }

pub actions_carry_what_was_published : {A B : Type 0} → ActionsCarryWhatWasPublished A B
actions_carry_what_was_published e i es number sequence t members epoch w has =
    let a = action e.blocks e.events e.readings e.position e.block i es number sequence t members e.apart e.here e.are_read w has in
    let told = good_published e.block e.events e.readings e.start e.publisher e.calls e.are_read e.stems i a.acts.facts a.reading a.frame (in_epoch e.block e.readings i e.start a.acts epoch) a.at a.goose in
    subst (λ (x : Change). IsPublishedUnder e.publisher e.calls number x) (ap₂ change a.t_is a.members_are)
    (subst (λ (n : ℕ). IsPublishedUnder e.publisher e.calls n (change a.frame.pdu.t a.frame.pdu.members)) a.number_is told)

-- what is acted on, by numbers

module _ {A B : Type 0} (e : EpochOfRun A B) where
  acted_number : (c i : ℕ) → ActsOnChange e c i → (f : Facts) × IsIn (trace_of_epoch e) e.start i f × Acts (trace_of_epoch e) i × (f.state ≡ e.publisher.first + c)
  acted_number c i w =
      let a = action e.blocks e.events e.readings e.position e.block i w.entries (e.publisher.first + c) w.sequence w.t w.members e.apart e.here e.are_read w.are_entries w.has in
      let facts = good_facts e.block e.readings i a.acts.facts a.reading a.frame a.acts.good a.at a.goose in
      (a.acts.facts, in_epoch e.block e.readings i e.start a.acts w.epoch, a.acts, ap (λ (f : Facts). f.state) facts ∙ a.number_is)

  acted_there : (c i : ℕ) (f : Facts) → IsIn (trace_of_epoch e) e.start i f → Acts (trace_of_epoch e) i → f.state ≡ e.publisher.first + c → ActsOnChange e c i
  acted_there c i f good acts number =
      let g = good_goose e.block e.readings i f good.good in
      let facts = good_facts e.block e.readings i f g.0 g.1 good.good g.2 g.3 in
      let es = entries_there e.blocks e.events e.readings i g.0 e.are_read g.2 in
      let entry : Entry B = says.Act e.position g.1.pdu.st_num g.1.pdu.sq_num g.1.pdu.t g.1.pdu.members in
      let on : IsActOn e.blocks e.readings i e.position entry = record {
        block = e.block;
        at = e.here;
        event = g.0;
        read = g.2;
        frame = g.1;
        goose = g.3;
        acts = acts;
        told = refl;
      } in
      let has = (acts_are_told e.blocks e.readings i es.0 e.position g.1.pdu.st_num g.1.pdu.sq_num g.1.pdu.t g.1.pdu.members e.apart (entries_read e.blocks e.events e.readings i es.0 e.are_read es.1)).1 on in
      let state : g.1.pdu.st_num ≡ e.publisher.first + c = sym (ap (λ (y : Facts). y.state) facts) ∙ number in
      record {
        epoch = good.epoch;
        entries = es.0;
        are_entries = es.1;
        sequence = g.1.pdu.sq_num;
        t = g.1.pdu.t;
        members = g.1.pdu.members;
        has = subst (λ (n : ℕ). Contains es.0 (says.Act e.position n g.1.pdu.sq_num g.1.pdu.t g.1.pdu.members)) state has;
      }

  -- each good frame of the epoch is one of a change
  good_number : (i : ℕ) (f : Facts) → IsIn (trace_of_epoch e) e.start i f → (c : ℕ) × ComesAt (trace_of_epoch e) e.start e.publisher.first c i × (f.state ≡ e.publisher.first + c)
  good_number i f good =
      let g = good_goose e.block e.readings i f good.good in
      let facts = good_facts e.block e.readings i f g.0 g.1 good.good g.2 g.3 in
      let told = good_published e.block e.events e.readings e.start e.publisher e.calls e.are_read e.stems i f g.0 g.1 good g.2 g.3 in
      let state : f.state ≡ e.publisher.first + told.c = ap (λ (y : Facts). y.state) facts ∙ told.numbered in
      (told.c, record { facts = f; good = good; numbered = state }, state)

  acted : (c : ℕ) → (i : ℕ) × ActsOnChange e c i → ChangeComesInTime (trace_of_epoch e) e.start e.publisher.first c
  acted c w =
      let a = acted_number c w.0 w.1 in
      let t = (acted_where_in_time (trace_of_epoch e) e.start (e.publisher.first + c)).0 (record { position = w.0; facts = a.0; good = a.1; acts = a.2; numbered = a.3 }) in
      record {
        position = t.position;
        comes = record { facts = t.facts; good = t.good; numbered = t.numbered };
        before = λ j d other lt.
            let most : other.facts.state ≤ e.publisher.first + c = t.before j other.facts other.good lt in
            omega arith;
      }

  comes : (c : ℕ) → ChangeComesInTime (trace_of_epoch e) e.start e.publisher.first c → (i : ℕ) × ActsOnChange e c i
  comes c w =
      let a = (acted_where_in_time (trace_of_epoch e) e.start (e.publisher.first + c)).1 (record {
        position = w.position;
        facts = w.comes.facts;
        good = w.comes.good;
        numbered = w.comes.numbered;
        before = λ j g good lt.
            let d = good_number j g good in
            let most : d.0 ≤ c = w.before j d.0 d.1 lt in
            omega arith;
      }) in
      (a.position, acted_there c a.position a.facts a.good a.acts a.numbered)

  rise : (c d i j : ℕ) → ActsOnChange e c i → ActsOnChange e d j → i < j → c < d
  rise c d i j u v lt =
      let x = acted_number c i u in
      let y = acted_number d j v in
      let less : x.0.state < y.0.state = numbers_rise (trace_of_epoch e) e.start i j x.0 y.0 x.1 y.1 lt x.2 y.2 in
      omega arith

  order : (c d i j : ℕ) → ActsOnChange e c i → ActsOnChange e d j → i ≤ j → c ≤ d
  order c d i j u v le = elim (cases_order i j) [
    | inl same ↦
        let x = acted_number c i u in
        let y = acted_number d j v in
        let facts : x.0 ≡ y.0 = same_Some x.0 y.0 (sym x.1.good ∙ (ap (trace_of_epoch e).good same ∙ y.1.good)) in
        let state : x.0.state ≡ y.0.state = ap (λ (f : Facts). f.state) facts in
        omega arith
    | inr (inl lt) ↦ let less : c < d = rise c d i j u v lt in omega arith
    | inr (inr gt) ↦ absurd (omega arith)
  ]

  once : (c i j : ℕ) → ActsOnChange e c i → ActsOnChange e c j → i ≡ j
  once c i j u v = elim (cases_order i j) [
    | inl same ↦ same
    | inr (inl lt) ↦ let less : c < c = rise c c i j u v lt in absurd (omega arith)
    | inr (inr gt) ↦ let less : c < c = rise c c j i v u gt in absurd (omega arith)
  ]

pub changes_acted_on : {A B : Type 0} → ChangesActedOn A B
changes_acted_on e = record { those = λ c. (acted e c, comes e c); in_order = order e; once = once e }
