-- What a reader of packets settles by a block that was read.
use Rattle.std.proofs.Common.{◌≡◌, ℕ, ◌+◌, suc, inl, inr, List, [], Option, Result, Ok, Err, ap, sym, ◌∙◌, refl, arith}
use Rattle.list_core.specs.declared.device.InputEnd.{InputEnd}
use Rattle.list_core.specs.declared.event.Event.{Event}
use Rattle.list_core.specs.declared.event.EventKind.{EventKind}
use Rattle.list_core.specs.declared.event.EventKind.TheVariants.{Clock}
use Rattle.tally_core.specs.Tally.{count_all}
use Rattle.capture_core.specs.Packets.{event_of, other_link}
use Rattle.capture_core.specs.Blocks.{Block, Settled, begins, captures, describes, next_block, passes}
use Rattle.capture_core.specs.PacketReader.{PacketState, in_blocks, packet_number, packet_state}
use Rattle.capture_core.specs.computed.OneRead.{ReadsFront}
use Rattle.capture_core.specs.computed.Sections.{IsSaidAs}
use Rattle.capture_core.specs.computed.Steps.{Settles, Steps}
use Rattle.capture_core.specs.declared.body.Said.{Said}
use Rattle.capture_core.specs.declared.body.Said.TheVariants as said
use Rattle.capture_core.specs.declared.capture_fault.CaptureCause.{CaptureCause}
use Rattle.capture_core.specs.declared.form.OctetOrder.{OctetOrder}
use Rattle.capture_core.specs.declared.interface.Interface.{Interface}
use Rattle.list_core.specs.declared.read_error.ReadError.TheVariants as error
use Rattle.capture_core.specs.declared.packet_reader.PacketReader.{PacketReader}
use Rattle.capture_core.specs.declared.packet_reader.Progress.TheVariants as progress
use Rattle.capture_core.specs.declared.packet_reader.Step.{Step}
use Rattle.capture_core.specs.declared.packet_reader.Step.TheVariants.{Passed, Answered}
use Rattle.capture_core.proofs.PacketsRead.{clock_is, other_is}
use Rattle.capture_core.proofs.ReaderSteps.{block_begins, block_describes, block_gives, block_passes, interface_wants}

same_block : (a b : Block) → ◌≡◌ {A = Result Block CaptureCause} (Ok a) (Ok b) → a ≡ b
same_block a b e = cc

-- the front that stands at the next block, where this one was read
abbrev Reads : PacketState → Settled → Block → Option (List ℕ) → InputEnd → Type 0
Reads old s b left ending = ReadsFront (λ y o. next_block y (old.answered + 1) s o) [] old.left old.ending (Ok b) left ending

module _ {R A : Type 0} (left : R → Option (List ℕ)) (ending : R → InputEnd) (old : PacketState) (mid new : PacketReader R A) (s : Settled) (m : ℕ)
    (at : old.stage ≡ in_blocks s) (most : old.most ≡ suc m) (answered : mid.answered ≡ old.answered) (same_most : mid.most ≡ old.most)
    (order : mid.progress ≡ progress.Blocks s.order) (interfaces : mid.interfaces.items ≡ s.interfaces) (moment : mid.moment ≡ s.moment) (reader : new.reader ≡ mid.reader)
    (links : mid.other_links ≡ old.other_links) where
  abbrev now : PacketState
  now = packet_state left ending new

  -- what was read, as the source stands
  reads_now : (a b : Block) → ◌≡◌ {A = Result Block CaptureCause} (Ok a) (Ok b) → Reads old s a (left mid.reader) (ending mid.reader) → Reads old s b (left new.reader) (ending new.reader)
  reads_now a b e r = rw (← same_block a b e, reader) r

  settles_section : (b : Block) (to : OctetOrder) (step : Step A) → Reads old s b (left mid.reader) (ending mid.reader) → IsSaidAs {A = A} (Ok (said.Begins to)) (Ok b) → Settles mid (said.Begins to) step new → Steps old step old.answered now (packet_number new)
  settles_section b to step r e t =
      let few : new.most ≡ m = omega (arith, t.5, same_most, most) in
      let count : new.answered ≡ old.answered = t.4 ∙ answered in
      rw (t.0, at) (block_begins _ _ s m refl most to (reads_now b (begins to) e r) (rw (t.1, t.2, t.3, moment) refl) count few (t.6 ∙ links), rw t.1 (omega (arith, few, most)), rw t.1 count)

  settles_interface : (b : Block) (i : Interface) (step : Step A) → Reads old s b (left mid.reader) (ending mid.reader) → IsSaidAs {A = A} (Ok (said.Describes i)) (Ok b) → Settles mid (said.Describes i) step new → Steps old step old.answered now (packet_number new)
  settles_interface b i step r e (inl t) =
      let few : new.most ≡ m = omega (arith, t.5, same_most, most) in
      let count : new.answered ≡ old.answered = t.4 ∙ answered in
      rw (t.0, at) (block_describes _ _ s m refl most i (reads_now b (describes i) e r) (rw (t.1, t.2, t.3, order, interfaces, moment) refl) count few (t.6 ∙ links), rw (t.1, order) (omega (arith, few, most)), rw (t.1, order) count)
  settles_interface b i Passed r e (inr t) = absurd t.0
  settles_interface b i (Answered (Ok o)) r e (inr t) = absurd t.0
  settles_interface b i (Answered (Err (error.Fault f))) r e (inr t) = absurd t.0
  settles_interface b i (Answered (Err (error.Memory w))) r e (inr t) =
      let count : new.answered ≡ old.answered = t.2 ∙ answered in
      (interface_wants _ _ s m at most i (reads_now b (describes i) e r) (rw t.1 refl) (t.3 ∙ links), rw t.1 count, tt)

  settles_packet : (b : Block) (e : Event A) (step : Step A) → Reads old s b (left mid.reader) (ending mid.reader) → IsSaidAs (Ok (said.Captures e)) (Ok b) → Settles mid (said.Captures e) step new → Steps old step old.answered now (packet_number new)
  settles_packet b e step r (p, q, is, ethernet) t =
      let few : new.most ≡ m = omega (arith, t.5, same_most, most) in
      let count : new.answered ≡ old.answered + 1 = t.4 ∙ ap (λ (k : ℕ). k + 1) answered in
      let number : packet_number new ≡ old.answered + 1 = rw (t.1, order) count in
      let moment_told : new.moment ≡ p.moment = t.3 ∙ ap (λ (x : Event A). x.moment) is in
      let kept : new.other_links ≡ count_all (other_link (old.answered + 1) p.link_type) old.other_links = rw ethernet (t.6 ∙ links) in
      rw (t.0, number, is) (block_gives _ _ s m at most p (reads_now b (captures p) q r) (rw (t.1, t.2, moment_told, order, interfaces) refl) count few kept, refl, rw (t.1, order, at) (omega (arith, few, most)))

  settles_other : (b : Block) (moment link : ℕ) (step : Step A) → Reads old s b (left mid.reader) (ending mid.reader) → IsSaidAs {A = A} (Ok (said.CapturesOther moment link)) (Ok b) → Settles mid (said.CapturesOther moment link) step new →
      Steps old step old.answered now (packet_number new)
  settles_other b moment link step r (p, q, captured_at, of_link, other) t =
      let few : new.most ≡ m = omega (arith, t.5, same_most, most) in
      let count : new.answered ≡ old.answered + 1 = t.4 ∙ ap (λ (k : ℕ). k + 1) answered in
      let number : packet_number new ≡ old.answered + 1 = rw (t.1, order) count in
      let moment_told : new.moment ≡ p.moment = t.3 ∙ sym captured_at in
      let no_ethernet : p.link_type ≡ 1 → ⊥ = λ one. other (sym of_link ∙ one) in
      let is : record { moment = moment; kind = Clock } ≡ event_of {A = A} p = rw (sym captured_at) (ap (λ (k : EventKind A). record { moment = p.moment; kind = k }) (clock_is p.link_type p.octets no_ethernet)) in
      let kept : new.other_links ≡ count_all (other_link (old.answered + 1) p.link_type) old.other_links =
      t.6 ∙ rw (answered, links) refl ∙ ap (λ (fs : List (ℕ × ℕ)). count_all fs old.other_links) (other_is (old.answered + 1) p.link_type no_ethernet of_link) in
      rw (t.0, number, is) (block_gives _ _ s m at most p (reads_now b (captures p) q r) (rw (t.1, t.2, moment_told, order, interfaces) refl) count few kept, refl, rw (t.1, order, at) (omega (arith, few, most)))

  settles_nothing : (b : Block) (step : Step A) → Reads old s b (left mid.reader) (ending mid.reader) → IsSaidAs {A = A} (Ok said.Passes) (Ok b) → Settles mid said.Passes step new → Steps old step old.answered now (packet_number new)
  settles_nothing b step r e t =
      let few : new.most ≡ m = omega (arith, t.5, same_most, most) in
      let count : new.answered ≡ old.answered = t.4 ∙ answered in
      rw (t.0, at) (block_passes _ _ s m refl most (reads_now b passes e r) (rw (t.1, t.2, t.3, order, interfaces, moment) refl) count few (t.6 ∙ links), rw (t.1, order) (omega (arith, few, most)), rw (t.1, order) count)

  pub block_settles : (b : Block) (what : Said A) (step : Step A) → ReadsFront (λ y o. next_block y (old.answered + 1) s o) [] old.left old.ending (Ok b) (left mid.reader) (ending mid.reader) → IsSaidAs (Ok what) (Ok b) → Settles mid what step new →
      Steps old step old.answered (packet_state left ending new) (packet_number new)
  block_settles b (said.Begins to) step r e t = settles_section b to step r e t
  block_settles b (said.Describes i) step r e t = settles_interface b i step r e t
  block_settles b (said.Captures x) step r e t = settles_packet b x step r e t
  block_settles b (said.CapturesOther at link) step r e t = settles_other b at link step r e t
  block_settles b said.Passes step r e t = settles_nothing b step r e t
