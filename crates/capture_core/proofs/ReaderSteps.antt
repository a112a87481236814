-- The steps of a reader of packets, by what was read.
use Rattle.std.proofs.Common.{◌≡◌, ℕ, ◌+◌, suc, List, [], ◌++◌, drop, Some, None, Ok, Err, inl, inr, ap, subst, ◌∙◌, refl}
use Rattle.list_core.specs.declared.device.InputEnd.{InputEnd}
use Rattle.list_core.specs.Lines.{finished, unfinished, faulty}
use Rattle.capture_core.specs.Capture.{records_of}
use Rattle.tally_core.specs.Tally.{count_all}
use Rattle.capture_core.specs.Packets.{Numbered, Packet, event_of, events_of, other_link, packets_of_records, put_numbered}
use Rattle.capture_core.specs.Blocks.{Block, Settled, begins, captures, count_after, describes, next_block, packets_of_blocks, passes, put_block, settled_after}
use Rattle.capture_core.specs.PacketReader.{AnswersPacket, IsFrame, PacketState, TellsFrameNext, Stage, at_start, in_blocks, in_records, over, packets_from}
use Rattle.capture_core.specs.computed.OneRead.{IsFrameBlock, IsFramePacket, ReadsFront, ReadsToKeep, Told, capture_front, next_record}
use Rattle.capture_core.specs.computed.Steps.{PassesOver}
use Rattle.capture_core.specs.declared.form.CaptureForm.{CaptureForm}
use Rattle.capture_core.specs.declared.form.OctetOrder.{OctetOrder}
use Rattle.capture_core.specs.declared.interface.Interface.{Interface}
use Rattle.capture_core.specs.declared.start.Start.TheVariants as start
use Rattle.capture_core.specs.declared.capture_fault.CaptureFault.{CaptureFault}
use Rattle.capture_core.proofs.PacketsRead.{frame_is}
use Rattle.capture_core.proofs.StagesRead.{after_start, blocks_are, records_are, start_is}
use Rattle.capture_core.proofs.StepsRead.{spread, step_ends, step_fails, step_gives, step_keeps, step_passes, step_wants}

-- ---- the start

module _ (old new : PacketState) (at : old.stage ≡ at_start) where
  start_spreads : (y : InputEnd) (o : List ℕ) → packets_from old.stage old.answered old.most y o ≡ spread (capture_front y o) (λ s size. after_start s y (drop size o))
  start_spreads y o = ap (λ (s : Stage). packets_from s old.answered old.most y o) at ∙ start_is y o

  pub starts_records : (form : CaptureForm) → ReadsFront capture_front [] old.left old.ending (Ok (start.Records form)) new.left new.ending → new.stage ≡ in_records form → new.answered ≡ 0 → new.most ≡ 999999999999999998 → new.other_links ≡ old.other_links → PassesOver old new
  unfolding after_start
  starts_records form r a b m t = step_passes capture_front (λ s y o. after_start s y o) old start_spreads new (start.Records form) r (λ y more. rw (a, b, m) refl) t

  pub starts_blocks : (order : OctetOrder) → ReadsFront capture_front [] old.left old.ending (Ok (start.Blocks order)) new.left new.ending → new.stage ≡ in_blocks (record { order = order; interfaces = []; moment = 0 }) → new.answered ≡ 0 → new.most ≡ 999999999999999997 →
      new.other_links ≡ old.other_links → PassesOver old new
  unfolding after_start
  starts_blocks order r a b m t = step_passes capture_front (λ s y o. after_start s y o) old start_spreads new (start.Blocks order) r (λ y more. rw (a, b, m) refl) t

  pub starts_badly : {A : Type 0} (f : CaptureFault) → ReadsFront capture_front [] old.left old.ending (Err (Some (faulty f))) new.left new.ending → new.stage ≡ over (faulty f) → new.other_links ≡ old.other_links → AnswersPacket {A = A} old (Err (Some f)) new
  starts_badly f r a t = step_fails capture_front (λ s y o. after_start s y o) old start_spreads new f r a t

-- ---- records

module _ (old new : PacketState) (form : CaptureForm) (m : ℕ) (at : old.stage ≡ in_records form) (most : old.most ≡ suc m) where
  others_of : Packet → InputEnd → List ℕ → Numbered Packet
  others_of p y o = put_numbered (old.answered + 1, p) (packets_of_records (records_of form y (old.answered + 1) m o))

  records_spread : (y : InputEnd) (o : List ℕ) → packets_from old.stage old.answered old.most y o ≡ spread (next_record form y (old.answered + 1) o) (λ p size. others_of p y (drop size o))
  unfolding others_of
  records_spread y o = ap (λ (s : Stage). packets_from s old.answered old.most y o) at ∙ ap (λ (k : ℕ). packets_from (in_records form) old.answered k y o) most ∙ records_are form y old.answered m o

  pub record_gives : {A : Type 0} (p : Packet) → ReadsFront (λ y o. next_record form y (old.answered + 1) o) [] old.left old.ending (Ok p) new.left new.ending →
      new.stage ≡ in_records form → new.answered ≡ old.answered + 1 → new.most ≡ m → new.other_links ≡ count_all (other_link (old.answered + 1) p.link_type) old.other_links →
      AnswersPacket {A = A} old (Ok (Some (old.answered + 1, event_of p))) new
  unfolding others_of
  record_gives p r a b k t = step_gives (λ y o. next_record form y (old.answered + 1) o) others_of old records_spread new p (old.answered + 1) p r (λ y more. rw (a, b, k) refl) t

  pub records_end : {A : Type 0} → ReadsFront (λ y o. next_record form y (old.answered + 1) o) [] old.left old.ending (Err (Some finished)) new.left new.ending → new.stage ≡ over finished → new.other_links ≡ old.other_links → AnswersPacket {A = A} old (Ok None) new
  records_end r a t = step_ends (λ y o. next_record form y (old.answered + 1) o) others_of old records_spread new r a t

  pub records_fail : {A : Type 0} (f : CaptureFault) → ReadsFront (λ y o. next_record form y (old.answered + 1) o) [] old.left old.ending (Err (Some (faulty f))) new.left new.ending → new.stage ≡ over (faulty f) → new.other_links ≡ old.other_links → AnswersPacket {A = A} old (Err (Some f)) new
  records_fail f r a t = step_fails (λ y o. next_record form y (old.answered + 1) o) others_of old records_spread new f r a t

  record_frames : (A : Type 0) (p : Packet) → IsFramePacket p → (y : InputEnd) (o : List ℕ) → TellsFrameNext (events_of {A = A} (others_of p y o))
  unfolding others_of
  record_frames A p f y o = subst IsFrame (frame_is p.link_type p.octets f.0 f.1) tt

  pub records_want : {A : Type 0} (told : Told Packet) → told ≡ Err None → ReadsToKeep IsFramePacket (λ y o. next_record form y (old.answered + 1) o) [] old.left old.ending told new.left new.ending → new.stage ≡ over unfinished → new.other_links ≡ old.other_links → AnswersPacket {A = A} old (Err None) new
  records_want {A} told none r a t = step_keeps (λ y o. next_record form y (old.answered + 1) o) others_of old records_spread new IsFramePacket (record_frames A) told none r a t

-- ---- blocks

module _ (old new : PacketState) (s : Settled) (m : ℕ) (at : old.stage ≡ in_blocks s) (most : old.most ≡ suc m) where
  behind_of : Block → InputEnd → List ℕ → Numbered Packet
  behind_of b y o = put_block old.answered b (packets_of_blocks y (settled_after s b) (count_after old.answered b) m o)

  blocks_spread : (y : InputEnd) (o : List ℕ) → packets_from old.stage old.answered old.most y o ≡ spread (next_block y (old.answered + 1) s o) (λ b size. behind_of b y (drop size o))
  unfolding behind_of
  blocks_spread y o = ap (λ (t : Stage). packets_from t old.answered old.most y o) at ∙ ap (λ (k : ℕ). packets_from (in_blocks s) old.answered k y o) most ∙ blocks_are y s old.answered m o

  pub block_gives : {A : Type 0} (p : Packet) → ReadsFront (λ y o. next_block y (old.answered + 1) s o) [] old.left old.ending (Ok (captures p)) new.left new.ending →
      new.stage ≡ in_blocks (settled_after s (captures p)) → new.answered ≡ old.answered + 1 → new.most ≡ m → new.other_links ≡ count_all (other_link (old.answered + 1) p.link_type) old.other_links →
      AnswersPacket {A = A} old (Ok (Some (old.answered + 1, event_of p))) new
  unfolding behind_of
  block_gives p r a b k t = step_gives (λ y o. next_block y (old.answered + 1) s o) behind_of old blocks_spread new (captures p) (old.answered + 1) p r (λ y more. rw (a, b, k) refl) t

  pub block_begins : (order : OctetOrder) → ReadsFront (λ y o. next_block y (old.answered + 1) s o) [] old.left old.ending (Ok (begins order)) new.left new.ending →
      new.stage ≡ in_blocks (settled_after s (begins order)) → new.answered ≡ old.answered → new.most ≡ m → new.other_links ≡ old.other_links → PassesOver old new
  unfolding behind_of
  block_begins order r a b k t = step_passes (λ y o. next_block y (old.answered + 1) s o) behind_of old blocks_spread new (begins order) r (λ y more. rw (a, b, k) refl) t

  pub block_describes : (i : Interface) → ReadsFront (λ y o. next_block y (old.answered + 1) s o) [] old.left old.ending (Ok (describes i)) new.left new.ending →
      new.stage ≡ in_blocks (settled_after s (describes i)) → new.answered ≡ old.answered → new.most ≡ m → new.other_links ≡ old.other_links → PassesOver old new
  unfolding behind_of
  block_describes i r a b k t = step_passes (λ y o. next_block y (old.answered + 1) s o) behind_of old blocks_spread new (describes i) r (λ y more. rw (a, b, k) refl) t

  pub block_passes : ReadsFront (λ y o. next_block y (old.answered + 1) s o) [] old.left old.ending (Ok passes) new.left new.ending → new.stage ≡ in_blocks s → new.answered ≡ old.answered → new.most ≡ m → new.other_links ≡ old.other_links → PassesOver old new
  unfolding behind_of
  block_passes r a b k t = step_passes (λ y o. next_block y (old.answered + 1) s o) behind_of old blocks_spread new passes r (λ y more. rw (a, b, k) refl) t

  pub blocks_end : {A : Type 0} → ReadsFront (λ y o. next_block y (old.answered + 1) s o) [] old.left old.ending (Err (Some finished)) new.left new.ending → new.stage ≡ over finished → new.other_links ≡ old.other_links → AnswersPacket {A = A} old (Ok None) new
  blocks_end r a t = step_ends (λ y o. next_block y (old.answered + 1) s o) behind_of old blocks_spread new r a t

  pub blocks_fail : {A : Type 0} (f : CaptureFault) → ReadsFront (λ y o. next_block y (old.answered + 1) s o) [] old.left old.ending (Err (Some (faulty f))) new.left new.ending → new.stage ≡ over (faulty f) → new.other_links ≡ old.other_links → AnswersPacket {A = A} old (Err (Some f)) new
  blocks_fail f r a t = step_fails (λ y o. next_block y (old.answered + 1) s o) behind_of old blocks_spread new f r a t

  block_frames : (A : Type 0) (b : Block) → IsFrameBlock b → (y : InputEnd) (o : List ℕ) → TellsFrameNext (events_of {A = A} (behind_of b y o))
  unfolding behind_of
  block_frames A (begins order) f y o = absurd f
  block_frames A (describes i) f y o = absurd f
  block_frames A (captures p) f y o = subst IsFrame (frame_is p.link_type p.octets f.0 f.1) tt
  block_frames A passes f y o = absurd f

  pub blocks_want : {A : Type 0} (told : Told Block) → told ≡ Err None → ReadsToKeep IsFrameBlock (λ y o. next_block y (old.answered + 1) s o) [] old.left old.ending told new.left new.ending → new.stage ≡ over unfinished → new.other_links ≡ old.other_links → AnswersPacket {A = A} old (Err None) new
  blocks_want {A} told none r a t = step_keeps (λ y o. next_block y (old.answered + 1) s o) behind_of old blocks_spread new IsFrameBlock (block_frames A) told none r a t

  -- memory was wanted for an interface
  pub interface_wants : {A : Type 0} (i : Interface) → ReadsFront (λ y o. next_block y (old.answered + 1) s o) [] old.left old.ending (Ok (describes i)) new.left new.ending → new.stage ≡ over unfinished → new.other_links ≡ old.other_links → AnswersPacket {A = A} old (Err None) new
  interface_wants i r a k = step_wants (λ y o. next_block y (old.answered + 1) s o) behind_of old blocks_spread new (Ok (describes i)) r
      (inr (inl (record {
        front = [];
        block = r.given;
        parts = refl;
        settled = s;
        packets = old.answered;
        most = old.most;
        behind = λ more y c. ap (λ (t : Stage). packets_from t old.answered old.most y (r.given ++ more)) at;
        interface = i;
        is_interface = λ more y c. r.stands more y c;
      })))
      a
      k
