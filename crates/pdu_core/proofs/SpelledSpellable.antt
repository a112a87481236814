-- An APDU that octets spell has a spelling in the sense of the test: nothing is read that could not be written.
use Rattle.std.proofs.Common.{ℕ, ◌<◌, ◌^◌, List, [], ◌∷◌, ◌++◌, Option, Some, None, sym, subst, arith}
use Rattle.std.proofs.lemmas.Int.{ints}
use Rattle.std.specs.Prelude.{IfSome}
use Rattle.ber_core.specs.Fields.{AbsenceMeans, Field, Presence, SpellsField, SpellsFields, always, default, optional, filled, left_out}
use Rattle.ber_core.specs.Length.{AreOctets, number as octets_number}
use Rattle.ber_core.specs.Contents.{AreVisible}
use Rattle.mms_data.proofs.SpelledSpellable.{back_octets, contents_octets, front_octets, items_spellable, simple_spellable}
use Rattle.mms_data.specs.Data.{items_of, utc}
use Rattle.pdu_core.specs.Contents.{Item, Kind, SpellsContents, SpellsFixed, a_fixed, a_flag, a_number, a_text, a_time, contents_grammar, few, fixed, flag, members, raw, some_members, some_octets, text, time, number as a_kind_of_number}
use Rattle.pdu_core.specs.Goose.{SpellsGoose, goose_fields, goose_items, text_if}
use Rattle.pdu_core.specs.SampledSpellable.{IsFixed}
use Rattle.pdu_core.specs.Spellable.{IsSpellableGoose}
use Rattle.pdu_core.specs.declared.goose.GoosePdu.{GoosePdu}
use Rattle.ber_core.proofs.Shortest.{number_small}
use Rattle.pdu_core.proofs.WrittenSpelled.{IsSpellable}

fixed_small : (size n : ℕ) (c : List ℕ) → AreOctets c → SpellsFixed size n c → IsFixed size n
fixed_small size n c h (sized, is) =
    let small : octets_number c < 256 ^ size = subst (λ (k : ℕ). octets_number c < 256 ^ k) sized (number_small c h) in
    subst (IsFixed size) is small

-- the value of a field
item_spellable : (k : Kind) (x : Item) (c : List ℕ) → AreOctets c → SpellsContents k x c → IsSpellable k x
item_spellable text (a_text t) c h s = s.1
item_spellable a_kind_of_number (a_number n) c h s = omega (arith, ints, s.1)
item_spellable flag (a_flag b) c h s = tt
item_spellable time (a_time t) c h s = simple_spellable (utc t) c h s
item_spellable members (some_members ds) c h s = items_spellable (items_of ds) 1 c h s
item_spellable (fixed size) (a_fixed count n) c h (same, s) = (same, subst (λ (k : ℕ). IsFixed k n) (sym same) (fixed_small size n c h s))
item_spellable raw (some_octets o) c h s = tt
item_spellable few (some_octets o) c h s = s.1
item_spellable _ _ c h s = absurd s

-- the value that a field has, if it has one
abbrev pub There : Kind → Option Item → Type 0
There k None = Unit {0}
There k (Some x) = IsSpellable k x

abbrev pub AllThere : List (Field Kind Item) → List (Option Item) → Type 0
AllThere (g ∷ gs) (v ∷ vs) = There g.kind v × AllThere gs vs
AllThere _ _ = Unit {0}

-- the value that absence means
abbrev Default : Kind → Presence Item → Type 0
Default k always = Unit {0}
Default k optional = Unit {0}
Default k (default d) = IsSpellable k d

abbrev pub Defaults : List (Field Kind Item) → Type 0
Defaults [] = Unit {0}
Defaults (g ∷ gs) = Default g.kind g.presence × Defaults gs

absent_spellable : (k : Kind) (p : Presence Item) (v : Option Item) → Default k p → AbsenceMeans p v → There k v
absent_spellable k always v d means = absurd means
absent_spellable k optional v d means = subst (There k) (sym means) tt
absent_spellable k (default x) v d means = subst (There k) (sym means) d

field_spellable : (g : Field Kind Item) (v : Option Item) (o : List ℕ) → Default g.kind g.presence → AreOctets o → SpellsField contents_grammar g v o → There g.kind v
field_spellable g v o d h (filled x c is elem spelled) = subst (There g.kind) (sym is) (item_spellable g.kind x c (contents_octets g.identifier c o h elem) spelled)
field_spellable g v o d h (left_out means none) = absent_spellable g.kind g.presence v d means

pub fields_spellable : (gs : List (Field Kind Item)) (vs : List (Option Item)) (o : List ℕ) → Defaults gs → AreOctets o → SpellsFields contents_grammar gs vs o → AllThere gs vs
fields_spellable [] [] o d h s = tt
fields_spellable [] (v ∷ vs) o d h s = absurd s
fields_spellable (g ∷ gs) [] o d h s = absurd s
fields_spellable (g ∷ gs) (v ∷ vs) o d h (a, b, first, rest, parts) =
    let all : AreOctets (a ++ b) = subst AreOctets parts h in
    (field_spellable g v a d.0 (front_octets a b all) first, fields_spellable gs vs b d.1 (back_octets a b all) rest)

pub text_there : (t : Option (List ℕ)) → There text (text_if t) → IfSome t AreVisible
text_there None h = tt
text_there (Some t) h = h

goose_defaults : Defaults goose_fields
goose_defaults = (tt, (tt, (tt, (tt, (tt, (tt, (tt, (tt, (tt, (tt, (tt, (tt, tt))))))))))))

pub goose_spellable : {A : Type 0} (p : GoosePdu A) (o : List ℕ) → AreOctets o → SpellsGoose p o → IsSpellableGoose p
goose_spellable p o h (c, elem, spelled) =
    let all = fields_spellable goose_fields (goose_items p) c goose_defaults (contents_octets 0x61 c o h elem) spelled in
    record {
      gocb_ref = all.0;
      live = all.1.0;
      dat_set = all.1.1.0;
      go_id = text_there p.go_id all.1.1.1.0;
      t = all.1.1.1.1.0;
      st_num = all.1.1.1.1.1.0;
      sq_num = all.1.1.1.1.1.1.0;
      conf_rev = all.1.1.1.1.1.1.1.1.0;
      entries = all.1.1.1.1.1.1.1.1.1.1.0;
      members = all.1.1.1.1.1.1.1.1.1.1.1.0;
    }
