-- Blocks one behind another up to a first fault, and what is read of them.
use Rattle.std.proofs.Common.{◌≡◌, ℕ, ◌+◌, ◌-◌, ◌<◌, ◌≤◌, zero, suc, List, [], ◌∷◌, ◌++◌, length, take, drop, Ok, Err, ap, sym, ◌∙◌, refl, subst, arith, append_assoc}
use Rattle.std.proofs.lemmas.List.{append-nil, drop_at, take-append-drop}
use Rattle.list_core.specs.Items.{put_items}
use Rattle.list_core.specs.declared.device.InputEnd.{InputEnd}
use Rattle.list_core.specs.Lines.{Stop, faulty}
use Rattle.capture_core.specs.Capture.{ended, fault_in}
use Rattle.capture_core.specs.Packets.{Numbered, Packet, stopped}
use Rattle.capture_core.specs.Blocks.{Block, BlockRead, Settled, before_others, begins, captures, count_after, describes, next_block, packets_of_blocks, passes, put_block, settled_after}
use Rattle.capture_core.specs.SpelledBlocks.{SpellsBlocks, packets_said}
use Rattle.capture_core.specs.FirstFault.{BlockFault, NextFault, before_next, in_next, settled_behind, too_many}
use Rattle.capture_core.specs.declared.capture_fault.CaptureCause.{CaptureCause}
use Rattle.capture_core.specs.declared.capture_fault.CaptureCause.TheVariants as cause
use Rattle.capture_core.specs.declared.capture_fault.CaptureFault.{CaptureFault}
use Rattle.capture_core.proofs.BlocksRead.{next_some}
use Rattle.capture_core.proofs.SectionsSpelled.{Reads, read_next, spelled_first, spelled_room, stop_same}
use Rattle.capture_core.proofs.FaultyBlocks.{ReadAs, ended_as, fault_as, next_as, next_refused}

-- ---- counts

-- how many packets there are after blocks behind n
abbrev pub count_behind : ℕ → List Block → ℕ
count_behind n [] = n
count_behind n (b ∷ bs) = count_behind (count_after n b) bs

put_count : (n : ℕ) (b : Block) (l : Numbered Packet) (m : ℕ) → m ≡ count_after n b + length l.items → m ≡ n + length (put_block n b l).items
put_count n (begins order) l m e = e
put_count n (describes i) l m e = e
put_count n (captures p) l m e = omega (arith, e)
put_count n passes l m e = e

pub counted_behind : (n : ℕ) (bs : List Block) → count_behind n bs ≡ n + length (packets_said n bs).items
counted_behind n [] = omega arith
counted_behind n (b ∷ bs) = put_count n b (packets_said (count_after n b) bs) (count_behind (count_after n b) bs) (counted_behind (count_after n b) bs)

-- blocks that end have ended
pub said_finished : (n : ℕ) (bs : List Block) → (packets_said n bs).stop ≡ (packets_said n []).stop
said_finished n [] = refl
said_finished n (b ∷ bs) = stop_same n b (packets_said (count_after n b) bs) ∙ said_finished (count_after n b) bs

-- one more came, and one more may come
pub next_shift : (z : InputEnd) (came most more limit : ℕ) (Has : CaptureCause → List ℕ → Type 0) (why : CaptureCause) (rest : List ℕ) → more ≡ came + 1 → limit ≡ most + 1 → NextFault z came most Has why rest → NextFault z more limit Has why rest
next_shift z came most more limit Has why rest p q (before_next h e f w) = before_next (omega (arith, p, q, h)) e f w
next_shift z came most more limit Has why rest p q (too_many h s w) = too_many (omega (arith, p, q, h)) s w
next_shift z came most more limit Has why rest p q (in_next h s f) = in_next (omega (arith, p, q, h)) s f

-- ---- whole blocks before others

put_items_block : (n : ℕ) (b : Block) (l others : Numbered Packet) → put_block n b (put_items l.items others) ≡ put_items (put_block n b l).items others
put_items_block n (begins order) l others = refl
put_items_block n (describes i) l others = refl
put_items_block n (captures p) l others = refl
put_items_block n passes l others = refl

blocks_front : (bs : List Block) (z : InputEnd) (s : Settled) (n most left : ℕ) (front rest : List ℕ) → most ≡ length bs + left → SpellsBlocks s bs front →
    packets_of_blocks z s n most (front ++ rest) ≡ put_items (packets_said n bs).items (packets_of_blocks z (settled_behind s bs) (count_behind n bs) left rest)
unfolding packets_of_blocks
blocks_front [] z s n most left front rest h e =
    let same : most ≡ left = omega (arith, h) in
    ap (λ (k : ℕ). packets_of_blocks z s n k (front ++ rest)) same ∙ ap (λ (t : List ℕ). packets_of_blocks z s n left (t ++ rest)) e
blocks_front (b ∷ bs) z s n most left front rest h (one, others, e, is, are) =
    let k = length bs + left in
    let next : most ≡ suc k = omega (arith, h) in
    let behind = others ++ rest in
    let more = λ (c : Block) (size : ℕ). packets_of_blocks z (settled_after s c) (count_after n c) k (drop size (one ++ behind)) in
    let room = spelled_room s b one is in
    ap (λ (j : ℕ). packets_of_blocks z s n j (front ++ rest)) next
    ∙ ap (packets_of_blocks z s n (suc k)) (ap (λ (t : List ℕ). t ++ rest) e ∙ append_assoc one others rest)
    ∙ ap (λ (r : BlockRead). before_others n r more) (next_some z (n + 1) s one behind (omega (arith, room)) ∙ spelled_first z (n + 1) s b one behind is)
    ∙ ap (λ (l : List ℕ). put_block n b (packets_of_blocks z (settled_after s b) (count_after n b) k l)) (drop_at one behind (length one) refl)
    ∙ ap (put_block n b) (blocks_front bs z (settled_after s b) (count_after n b) k left others rest refl are)
    ∙ put_items_block n b (packets_said (count_after n b) bs) (packets_of_blocks z (settled_behind s (b ∷ bs)) (count_behind n (b ∷ bs)) left rest)

none_left : (z : InputEnd) (s : Settled) (n most : ℕ) → packets_of_blocks z s n most [] ≡ stopped (ended z (n + 1))
unfolding packets_of_blocks
none_left z s n zero = refl
none_left z s n (suc most) = refl

no_more : (z : InputEnd) (s : Settled) (n : ℕ) (o : List ℕ) → 0 < length o → packets_of_blocks z s n 0 o ≡ stopped (fault_in (n + 1) cause.TooManyRecords)
unfolding packets_of_blocks
no_more z s n [] h = absurd (omega (arith, h))
no_more z s n (x ∷ xs) h = refl

next_stops : (z : InputEnd) (s : Settled) (n most : ℕ) (o : List ℕ) (stop : Stop CaptureFault) → next_block z (n + 1) s o ≡ Err stop → packets_of_blocks z s n (suc most) o ≡ stopped stop
unfolding packets_of_blocks
next_stops z s n most o stop e = ap (λ (r : BlockRead). before_others n r (λ b size. packets_of_blocks z (settled_after s b) (count_after n b) most (drop size o))) e

-- a fault behind whole blocks
fault_behind : (es : List (ℕ × Packet)) (stop : Stop CaptureFault) → put_items es (stopped stop) ≡ record { items = es; stop = stop }
fault_behind es stop = ap (λ (l : List (ℕ × Packet)). record { items = l; stop = stop }) (append-nil es)

stops_so : (z : InputEnd) (s : Settled) (n came most left : ℕ) (why : CaptureCause) (rest : List ℕ) → most ≡ came + left → NextFault z came most (BlockFault z s) why rest → packets_of_blocks z s n left rest ≡ stopped (fault_in (n + 1) why)
stops_so z s n came most left why rest q (before_next h e f w) =
    ap (packets_of_blocks z s n left) e ∙ none_left z s n left ∙ ap (λ (y : InputEnd). stopped (ended y (n + 1))) f ∙ ap (λ (k : CaptureCause). stopped (fault_in (n + 1) k)) (sym w)
stops_so z s n came most left why rest q (too_many h m w) =
    let none : left ≡ 0 = omega (arith, q, h) in
    ap (λ (k : ℕ). packets_of_blocks z s n k rest) none ∙ no_more z s n rest m ∙ ap (λ (k : CaptureCause). stopped (fault_in (n + 1) k)) (sym w)
stops_so z s n came most left why rest q (in_next h m f) =
    let more : left ≡ suc (left - 1) = omega (arith, q, h) in
    ap (λ (k : ℕ). packets_of_blocks z s n k rest) more ∙ next_stops z s n (left - 1) rest (fault_in (n + 1) why) (next_refused z (n + 1) s why rest m f)

few_came : {z : InputEnd} {came most : ℕ} {Has : CaptureCause → List ℕ → Type 0} {why : CaptureCause} {rest : List ℕ} → NextFault z came most Has why rest → came ≤ most
few_came (before_next h e f w) = h
few_came (too_many h m w) = omega (arith, h)
few_came (in_next h m f) = omega (arith, h)

-- whole blocks, and then a fault, are read as these
pub blocks_refused : (z : InputEnd) (s : Settled) (n most : ℕ) (bs : List Block) (front rest : List ℕ) (why : CaptureCause) → SpellsBlocks s bs front → NextFault z (length bs) most (BlockFault z (settled_behind s bs)) why rest →
    packets_of_blocks z s n most (front ++ rest) ≡ record { items = (packets_said n bs).items; stop = fault_in (count_behind n bs + 1) why }
blocks_refused z s n most bs front rest why are f =
    let few = few_came f in
    let split : most ≡ length bs + (most - length bs) = omega (arith, few) in
    blocks_front bs z s n most (most - length bs) front rest split are
    ∙ ap (put_items (packets_said n bs).items) (stops_so z (settled_behind s bs) (count_behind n bs) (length bs) most (most - length bs) why rest split f)
    ∙ fault_behind (packets_said n bs).items (fault_in (count_behind n bs + 1) why)

-- ---- blocks that are read up to a fault

-- whole blocks, and then this fault
unfoldable pub AreReadTo : InputEnd → Settled → ℕ → ℕ → CaptureFault → List ℕ → Numbered Packet → Type 0
AreReadTo z s n most f o l = (bs : List Block) × (front : List ℕ) × (rest : List ℕ) × (o ≡ front ++ rest) × SpellsBlocks s bs front × NextFault z (length bs) most (BlockFault z (settled_behind s bs)) f.cause rest
    × (f.number ≡ count_behind n bs + 1) × (l.items ≡ (packets_said n bs).items)

at_once : (z : InputEnd) (s : Settled) (n most : ℕ) (f : CaptureFault) (o : List ℕ) (stop : Stop CaptureFault) → (f.number ≡ n + 1) × NextFault z 0 most (BlockFault z s) f.cause o → AreReadTo z s n most f o (stopped stop)
unfolding AreReadTo
at_once z s n most f o stop t = ([], [], o, refl, refl, t.1, t.0, refl)

put_same : (n : ℕ) (b : Block) (l k : Numbered Packet) → l.items ≡ k.items → (put_block n b l).items ≡ (put_block n b k).items
put_same n (begins order) l k e = e
put_same n (describes i) l k e = e
put_same n (captures p) l k e = ap (λ (es : List (ℕ × Packet)). (n + 1, p) ∷ es) e
put_same n passes l k e = e

module _ (z : InputEnd) (s : Settled) (n most : ℕ) (f : CaptureFault) (o : List ℕ)
    (others : (b : Block) (size : ℕ) → (packets_of_blocks z (settled_after s b) (count_after n b) most (drop size o)).stop ≡ faulty f →
    AreReadTo z (settled_after s b) (count_after n b) most f (drop size o) (packets_of_blocks z (settled_after s b) (count_after n b) most (drop size o))) where
  one_more : (r : BlockRead) → next_block z (n + 1) s o ≡ r → (before_others n r (λ b size. packets_of_blocks z (settled_after s b) (count_after n b) most (drop size o))).stop ≡ faulty f →
      AreReadTo z s n (suc most) f o (before_others n r (λ b size. packets_of_blocks z (settled_after s b) (count_after n b) most (drop size o)))
  unfolding AreReadTo Reads
  one_more (Err stop) e g =
      let Has = λ (why : CaptureCause). NextFault z 0 (suc most) (BlockFault z s) why o in
      let told : ReadAs Has (n + 1) (next_block z (n + 1) s o) = next_as z (n + 1) s Has o (λ p q. before_next (omega arith) p q refl) (λ why p q. in_next (omega arith) p q) in
      at_once z s n (suc most) f o stop (subst (λ (r : BlockRead). ReadAs Has (n + 1) r) e told f g)
  one_more (Ok (b, size)) e g =
      let r = read_next z (n + 1) s o b size e in
      let l = packets_of_blocks z (settled_after s b) (count_after n b) most (drop size o) in
      let t = others b size (sym (stop_same n b l) ∙ g) in
      let front = take size o ++ t.1 in
      let text : o ≡ front ++ t.2 = sym (take-append-drop size o) ∙ ap (λ (k : List ℕ). take size o ++ k) t.3 ∙ sym (append_assoc (take size o) t.1 t.2) in
      let next = next_shift z (length t.0) most (length (b ∷ t.0)) (suc most) (BlockFault z (settled_behind s (b ∷ t.0))) f.cause t.2 (omega arith) (omega arith) t.5 in
      (b ∷ t.0, front, t.2, text, (take size o, t.1, refl, r.0, t.4), next, t.6, put_same n b l (packets_said (count_after n b) t.0) t.7)

pub blocks_to_fault : (most : ℕ) (z : InputEnd) (s : Settled) (n : ℕ) (f : CaptureFault) (o : List ℕ) → (packets_of_blocks z s n most o).stop ≡ faulty f → AreReadTo z s n most f o (packets_of_blocks z s n most o)
unfolding packets_of_blocks
blocks_to_fault zero z s n f [] e = at_once z s n 0 f [] (ended z (n + 1)) (ended_as (λ why. NextFault z 0 0 (BlockFault z s) why []) z (n + 1) (λ g. before_next (omega arith) refl g refl) f e)
blocks_to_fault zero z s n f (x ∷ xs) e =
    at_once z s n 0 f (x ∷ xs) (fault_in (n + 1) cause.TooManyRecords) (fault_as (λ why. NextFault z 0 0 (BlockFault z s) why (x ∷ xs)) (n + 1) cause.TooManyRecords (too_many refl (omega arith) refl) f e)
blocks_to_fault (suc most) z s n f o e = one_more z s n most f o (λ b size g. blocks_to_fault most z (settled_after s b) (count_after n b) f (drop size o) g) (next_block z (n + 1) s o) refl e
