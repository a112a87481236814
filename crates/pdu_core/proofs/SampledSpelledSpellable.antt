-- An APDU of Sampled Values that octets spell has a spelling in the sense of its fields.
use Rattle.std.proofs.Common.{◌≡◌, ℕ, List, [], ◌∷◌, ◌++◌, length, Option, Some, None, subst, arith}
use Rattle.std.proofs.lemmas.Int.{ints}
use Rattle.std.specs.List.{AllByRecursion}
use Rattle.std.specs.Prelude.{IfSome}
use Rattle.ber_core.specs.Fields.{SpellsField, SpellsFields, always, filled, left_out}
use Rattle.ber_core.specs.Length.{AreOctets}
use Rattle.ber_core.specs.Repeated.{SpellsEach}
use Rattle.mms_data.proofs.SpelledSpellable.{back_octets, contents_octets, front_octets}
use Rattle.mms_data.specs.Spellable.{IsTime}
use Rattle.mms_data.specs.declared.time.UtcTime.{UtcTime}
use Rattle.pdu_core.specs.Asdu.{asdu_fields, asdu_items, fixed_if, some_octets_if, time_if}
use Rattle.pdu_core.specs.Contents.{contents_grammar, few, fixed, time}
use Rattle.pdu_core.specs.Sampled.{SpellsSvContents, SvItem, SvKind, a_count, asdu_count, asdu_grammar, asdus, items_of_each, some_asdus, sv_grammar}
use Rattle.pdu_core.specs.SampledLaws.{SpelledSvIsSpellable}
use Rattle.pdu_core.specs.SampledSpellable.{AreFew, IsFixed, IsSpellableAsdu}
use Rattle.pdu_core.specs.declared.sampled.asdu.Asdu.{Asdu}
use Rattle.pdu_core.proofs.SpelledSpellable.{Defaults, There, fields_spellable, text_there}

-- ---- an ASDU

time_there : (t : Option UtcTime) → There time (time_if t) → IfSome t IsTime
time_there None h = tt
time_there (Some t) h = h

fixed_there : (size : ℕ) (n : Option ℕ) → There (fixed size) (fixed_if size n) → IfSome n (IsFixed size)
fixed_there size None h = tt
fixed_there size (Some n) h = h.1

few_there : (o : Option (List ℕ)) → There few (some_octets_if o) → IfSome o AreFew
few_there None h = tt
few_there (Some o) h = h

asdu_defaults : Defaults asdu_fields
asdu_defaults = (tt, (tt, (tt, (tt, (tt, (tt, (tt, (tt, (tt, (tt, tt))))))))))

asdu_spellable : {A : Type 0} (a : Asdu A) (c : List ℕ) → AreOctets c → SpellsFields contents_grammar asdu_fields (asdu_items a) c → IsSpellableAsdu a
asdu_spellable a c h spelled =
    let all = fields_spellable asdu_fields (asdu_items a) c asdu_defaults h spelled in
    record {
      sv_id = all.0;
      dat_set = text_there a.dat_set all.1.0;
      smp_cnt = all.1.1.0.1;
      conf_rev = all.1.1.1.0.1;
      refr_tm = time_there a.refr_tm all.1.1.1.1.0;
      smp_synch = all.1.1.1.1.1.0.1;
      smp_rate = fixed_there 2 a.smp_rate all.1.1.1.1.1.1.0;
      smp_mod = few_there a.smp_mod all.1.1.1.1.1.1.1.1.0;
      field_89 = few_there a.field_89 all.1.1.1.1.1.1.1.1.1.0;
    }

-- ---- ASDUs, one after the other

asdus_spellable : {A : Type 0} (each : List (Asdu A)) (o : List ℕ) → AreOctets o → SpellsEach asdu_grammar 0x30 tt (items_of_each each) o → AllByRecursion IsSpellableAsdu each
asdus_spellable [] o h s = tt
asdus_spellable (a ∷ more) o h (c, first, rest, elem, spelled, others, parts) =
    let all : AreOctets (first ++ rest) = subst AreOctets parts h in
    (asdu_spellable a c (contents_octets 0x30 c first (front_octets first rest all) elem) spelled, asdus_spellable more rest (back_octets first rest all) others)

-- ---- the APDU

-- the contents of a field that is always there
field_contents : (id : ℕ) (k : SvKind) (x : SvItem) (o : List ℕ) → AreOctets o → SpellsField sv_grammar (record { identifier = id; kind = k; presence = always }) (Some x) o → (c : List ℕ) × AreOctets c × SpellsSvContents k x c
field_contents id k x o h (filled y c is elem spelled) = let same : y ≡ x = cc in (c, contents_octets id c o h elem, subst (λ (z : SvItem). SpellsSvContents k z c) same spelled)
field_contents id k x o h (left_out means none) = absurd means

pub sv_spellable : {A : Type 0} → SpelledSvIsSpellable A
sv_spellable p o h (c, elem, (front, back, count, (each, end, those, ends, rest), parts)) =
    let inside : AreOctets (front ++ back) = subst AreOctets parts (contents_octets 0x60 c o h elem) in
    let behind : AreOctets (each ++ end) = subst AreOctets rest (back_octets front back inside) in
    let counted = field_contents 0x80 asdu_count (a_count (length p.asdus)) front (front_octets front back inside) count in
    let listed = field_contents 0xa2 asdus (some_asdus (items_of_each p.asdus)) each (front_octets each end behind) those in
    record { count = (omega (arith, ints, counted.2), omega (arith, ints, counted.2)); each = asdus_spellable p.asdus listed.0 listed.1 listed.2 }
