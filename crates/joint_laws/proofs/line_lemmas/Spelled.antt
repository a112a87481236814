-- What octets of a frame spell has octets in it, and numbers of few bits.
use Rattle.std.proofs.Common.{◌≡◌, ℕ, ◌^◌, ◌<◌, List, [], ◌∷◌, ◌++◌, Option, Some, None, sym, subst, arith}
use Rattle.std.specs.Prelude.{IfSome}
use Rattle.std.specs.List.{AllByRecursion}
use Rattle.ber_core.specs.Fields.{AbsenceMeans, Field, Presence, SpellsField, SpellsFields, always, default, filled, left_out, optional}
use Rattle.ber_core.specs.Length.{AreOctets, number as octets_number}
use Rattle.ber_core.proofs.Shortest.{number_small}
use Rattle.ber_core.specs.Repeated.{SpellsEach}
use Rattle.mms_data.specs.Data.{Data}
use Rattle.mms_data.specs.Spelling.{SpellsAll}
use Rattle.mms_data.proofs.SpelledSpellable.{back_octets, contents_octets, front_octets}
use Rattle.pdu_core.specs.Asdu.{asdu_fields, asdu_items, some_octets_if}
use Rattle.pdu_core.specs.Contents.{Item, Kind, SpellsContents, contents_grammar, few, members, raw, some_members, some_octets}
use Rattle.pdu_core.specs.Goose.{SpellsGoose, goose_fields, goose_items}
use Rattle.pdu_core.specs.Sampled.{SpellsSv, SpellsSvContents, SvItem, SvKind, asdu_grammar, asdus, items_of_each, some_asdus, sv_grammar}
use Rattle.pdu_core.specs.declared.goose.GoosePdu.{GoosePdu}
use Rattle.pdu_core.specs.declared.sampled.asdu.Asdu.{Asdu}
use Rattle.pdu_core.specs.declared.sampled.asdu.SvPdu.{SvPdu}
use Rattle.frame_core.specs.Envelope.{SpellsTag, Word}
use Rattle.frame_core.specs.Frame.{SpellsFrame}
use Rattle.frame_core.specs.Apdu.{SpellsApdu}
use Rattle.frame_core.specs.declared.frame.Frame.{Frame}
use Rattle.frame_core.specs.declared.vlan_tag.VlanTag.{VlanTag}

-- members that octets spell
abbrev pub AreSpelled : List Data → Type 0
AreSpelled ds = (o : List ℕ) × AreOctets o × SpellsAll ds 1 o

-- the octets that a value of a field holds, and the members
abbrev Holds : Item → Type 0
Holds (some_members ds) = AreSpelled ds
Holds (some_octets o) = AreOctets o
Holds _ = Unit {0}

holds : (k : Kind) (x : Item) (c : List ℕ) → AreOctets c → SpellsContents k x c → Holds x
holds members (some_members ds) c h s = (c, h, s)
holds raw (some_octets o) c h s = subst AreOctets s h
holds few (some_octets o) c h s = subst AreOctets s.0 h
holds k (some_members ds) c h s = absurd s
holds k (some_octets o) c h s = absurd s
holds _ _ _ _ _ = tt

abbrev HoldsIf : Option Item → Type 0
HoldsIf None = Unit {0}
HoldsIf (Some x) = Holds x

abbrev AllHold : List (Option Item) → Type 0
AllHold [] = Unit {0}
AllHold (v ∷ vs) = HoldsIf v × AllHold vs

abbrev Default : Presence Item → Type 0
Default always = Unit {0}
Default optional = Unit {0}
Default (default d) = Holds d

abbrev Defaults : List (Field Kind Item) → Type 0
Defaults [] = Unit {0}
Defaults (g ∷ gs) = Default g.presence × Defaults gs

absent_holds : (p : Presence Item) (v : Option Item) → Default p → AbsenceMeans p v → HoldsIf v
absent_holds always v d means = absurd means
absent_holds optional v d means = subst HoldsIf (sym means) tt
absent_holds (default x) v d means = subst HoldsIf (sym means) d

field_holds : (g : Field Kind Item) (v : Option Item) (o : List ℕ) → Default g.presence → AreOctets o → SpellsField contents_grammar g v o → HoldsIf v
field_holds g v o d h (filled x c is elem spelled) = subst HoldsIf (sym is) (holds g.kind x c (contents_octets g.identifier c o h elem) spelled)
field_holds g v o d h (left_out means none) = absent_holds g.presence v d means

fields_hold : (gs : List (Field Kind Item)) (vs : List (Option Item)) (o : List ℕ) → Defaults gs → AreOctets o → SpellsFields contents_grammar gs vs o → AllHold vs
fields_hold [] [] o d h s = tt
fields_hold (g ∷ gs) (v ∷ vs) o d h (a, b, first, rest, parts) =
    let all : AreOctets (a ++ b) = subst AreOctets parts h in
    (field_holds g v a d.0 (front_octets a b all) first, fields_hold gs vs b d.1 (back_octets a b all) rest)
fields_hold _ _ _ _ _ s = absurd s

-- ---- GOOSE

goose_defaults : Defaults goose_fields
goose_defaults = (tt, (tt, (tt, (tt, (tt, (tt, (tt, (tt, (tt, (tt, (tt, (tt, tt))))))))))))

pub members_spelled : {A : Type 0} (p : GoosePdu A) (o : List ℕ) → AreOctets o → SpellsGoose p o → AreSpelled p.members
members_spelled p o h (c, elem, spelled) = (fields_hold goose_fields (goose_items p) c goose_defaults (contents_octets 0x61 c o h elem) spelled).1.1.1.1.1.1.1.1.1.1.1.0

-- ---- Sampled Values

asdu_defaults : Defaults asdu_fields
asdu_defaults = (tt, (tt, (tt, (tt, (tt, (tt, (tt, (tt, (tt, (tt, tt))))))))))

-- the octets of an ASDU
pub record HasOctets {A : Type 0} (a : Asdu A) : Type 0 where
  pub sample : AreOctets a.sample
  pub smp_mod : IfSome a.smp_mod AreOctets
  pub field_89 : IfSome a.field_89 AreOctets

octets_if : (o : Option (List ℕ)) → HoldsIf (some_octets_if o) → IfSome o AreOctets
octets_if None h = tt
octets_if (Some o) h = h

asdu_octets : {A : Type 0} (a : Asdu A) (c : List ℕ) → AreOctets c → SpellsFields contents_grammar asdu_fields (asdu_items a) c → HasOctets a
asdu_octets a c h spelled =
    let all = fields_hold asdu_fields (asdu_items a) c asdu_defaults h spelled in
    record { sample = all.1.1.1.1.1.1.1.0; smp_mod = octets_if a.smp_mod all.1.1.1.1.1.1.1.1.0; field_89 = octets_if a.field_89 all.1.1.1.1.1.1.1.1.1.0 }

each_octets : {A : Type 0} (each : List (Asdu A)) (o : List ℕ) → AreOctets o → SpellsEach asdu_grammar 0x30 tt (items_of_each each) o → AllByRecursion HasOctets each
each_octets [] o h s = tt
each_octets (a ∷ more) o h (c, first, rest, elem, spelled, others, parts) =
    let all : AreOctets (first ++ rest) = subst AreOctets parts h in
    (asdu_octets a c (contents_octets 0x30 c first (front_octets first rest all) elem) spelled, each_octets more rest (back_octets first rest all) others)

field_contents : (id : ℕ) (k : SvKind) (x : SvItem) (o : List ℕ) → AreOctets o → SpellsField sv_grammar (record { identifier = id; kind = k; presence = always }) (Some x) o → (c : List ℕ) × AreOctets c × SpellsSvContents k x c
field_contents id k x o h (filled y c is elem spelled) = let same : y ≡ x = cc in (c, contents_octets id c o h elem, subst (λ (z : SvItem). SpellsSvContents k z c) same spelled)
field_contents id k x o h (left_out means none) = absurd means

pub asdus_have_octets : {A : Type 0} (p : SvPdu A) (o : List ℕ) → AreOctets o → SpellsSv p o → AllByRecursion HasOctets p.asdus
asdus_have_octets p o h (c, elem, (front, back, count, (each, end, those, ends, rest), parts)) =
    let inside : AreOctets (front ++ back) = subst AreOctets parts (contents_octets 0x60 c o h elem) in
    let behind : AreOctets (each ++ end) = subst AreOctets rest (back_octets front back inside) in
    let listed = field_contents 0xa2 asdus (some_asdus (items_of_each p.asdus)) each (front_octets each end behind) those in
    each_octets p.asdus listed.0 listed.1 listed.2

-- ---- frames

word_small : (n : ℕ) (o : List ℕ) → AreOctets o → Word n o → n < 65536
word_small n o h (two, is) =
    let small : octets_number o < 256 ^ 2 = subst (λ (k : ℕ). octets_number o < 256 ^ k) two (number_small o h) in
    let small_too : n < 256 ^ 2 = subst (λ (m : ℕ). m < 256 ^ 2) is small in
    omega arith

tag_small : (tag : Option VlanTag) (o : List ℕ) → AreOctets o → SpellsTag tag o → IfSome tag (λ t. t.control < 65536)
tag_small None o h s = tt
tag_small (Some tag) o h (a, b, first, second, parts) = word_small tag.control b (back_octets a b (subst AreOctets parts h)) second

-- what octets spell as a frame: octets in its addresses and its trailer, words of sixteen bits, octets that spell its APDU
pub record IsHeldFrame {A : Type 0} (f : Frame A) : Type 0 where
  pub destination : AreOctets f.destination
  pub source : AreOctets f.source
  pub tag : IfSome f.tag (λ t. t.control < 65536)
  pub app_id : f.app_id < 65536
  pub reserved1 : f.reserved1 < 65536
  pub reserved2 : f.reserved2 < 65536
  pub apdu : List ℕ
  pub are_octets : AreOctets apdu
  pub spells : SpellsApdu f.apdu apdu
  pub trailer : AreOctets f.trailer

pub frame_held : {A : Type 0} (o : List ℕ) (f : Frame A) → AreOctets o → SpellsFrame f o → IsHeldFrame f
frame_held o f h s =
    let h0 = subst AreOctets s.parts h in
    let h1 = back_octets f.destination _ h0 in
    let h2 = back_octets f.source _ h1 in
    let h4 = back_octets s.ether_type _ (back_octets s.tag _ h2) in
    let h6 = back_octets s.size _ (back_octets s.app_id _ h4) in
    let h7 = back_octets s.reserved1 _ h6 in
    let h8 = back_octets s.reserved2 _ h7 in
    record {
      destination = front_octets f.destination _ h0;
      source = front_octets f.source _ h1;
      tag = tag_small f.tag s.tag (front_octets s.tag _ h2) s.tagged;
      app_id = word_small f.app_id s.app_id (front_octets s.app_id _ h4) s.addressed;
      reserved1 = word_small f.reserved1 s.reserved1 (front_octets s.reserved1 _ h6) s.first;
      reserved2 = word_small f.reserved2 s.reserved2 (front_octets s.reserved2 _ h7) s.second;
      apdu = s.apdu;
      are_octets = front_octets s.apdu f.trailer h8;
      spells = s.spelled;
      trailer = back_octets s.apdu f.trailer h8;
    }
