-- The texts of members are values of JSON, which say what the members' words say.
use Rattle.std.proofs.Common.{◌≡◌, ℕ, ℤ, suc, pos, negsuc, ◌+◌, ◌-◌, ◌*◌, ◌<◌, ◌≤◌, Bool, true, false, List, [], ◌∷◌, ◌++◌, ap, refl, sym, subst, ◌∙◌, arith, Some, None}
use Rattle.std.specs.Prelude.{Option, MatchOption, codes}
use Rattle.std.specs.Bool.{MatchBool}
use Rattle.std.specs.Fmt.{decimal, signed_decimal}
use Rattle.std.specs.Float.{Float, Format, float_is_finite}
use Rattle.std.specs.List.{join_with_byte}
use Rattle.std.proofs.lemmas.Int.{ints}
use Rattle.date_core.specs.DateText.{date_text}
use Rattle.hex.specs.Hex.{encode_lower}
use Rattle.ber_core.specs.Length.{AreOctets}
use Rattle.mms_data.specs.Contents.{IsSigned, SpellsSimple}
use Rattle.mms_data.specs.Data.{Simple, boolean, bits, integer, unsigned, floating, octets, visible, binary_time, mms_text, utc, Data, simple, array, structure, Items, no_items, item, items_of}
use Rattle.mms_data.specs.Written.{written_time}
use Rattle.mms_data.specs.declared.time.UtcTime.{UtcTime}
use Rattle.mms_data.specs.Spelling.{Spells, SpellsAll, SpellsItems}
use Rattle.mms_data.proofs.SpelledSpellable.{back_octets, contents_octets, front_octets, simple_spellable}
use Rattle.json.specs.Json as json
use Rattle.json.specs.Json.{Json}
use Rattle.text_core.specs.Pieces.{bits_text}
use Rattle.text_core.specs.ValueText.{item_texts, members_text, simple_text, time_text, value_text}
use Rattle.text_core.proofs.ValueLemmas.{item_texts_items_of}
use Rattle.object_core.specs.Objects as objects
use Rattle.object_core.specs.Objects.{date_value, in_quotes, octets_value}
use Rattle.object_core.specs.Times.{moment_of, quality_value, time_fields}
use Rattle.object_core.specs.MemberObject.{AreItems, AreMembers, IsFloatValue, IsMember, IsNumberOf, IsNumberOrNull, IsSimple, float_in, one_field}
use Rattle.joint_laws.specs.JsonText.{MembersAreJson}
use Rattle.joint_laws.proofs.object_lemmas.PlainTexts.{are_plain, bits_text_plain}
use Rattle.joint_laws.proofs.object_lemmas.Values.{IsShort, IsTextOf, boolean_is, decimal_is, deeper, float_is, null_is, plain_is, read_back, signed_is}
use Rattle.joint_laws.proofs.object_lemmas.Containers.{AreTextsOf, array_is, object_is}
use Rattle.joint_laws.proofs.object_lemmas.Names.{are_distinct, one_name}
use Rattle.joint_laws.proofs.object_lemmas.Fields.{by, date_is, octets_are, octets_field, quality_is, quality_json, string_or_null, visible_is, written_octets}
use Rattle.joint_laws.proofs.object_lemmas.Spoken.{items_said, members_said, value_said}

-- the text is that of a value of JSON which says this
pub record Says (n : ℕ) (read : Json → List ℕ) (text said : List ℕ) : Type 0 where
  pub json : Json
  pub is_text : IsTextOf n json text
  pub says : read json ≡ said

-- ---- floats

-- the text is that of some value of JSON
abbrev IsSome : ℕ → List ℕ → Type 0
IsSome n text = (j : Json) × IsTextOf n j text

number_or_null : (n : ℕ) (f : Format) (x : Float) (text : List ℕ) → IsNumberOrNull f x text → IsSome n text
number_or_null n f x text h = go (float_is_finite x) h
  where
    go : (finite : Bool) → MatchBool finite (IsNumberOf f x text) (text ≡ objects.null) → IsSome n text
    go true number = (json.number text, float_is n text number.plain)
    go false e = (json.null, subst (IsTextOf n json.null) (sym e) (null_is n))

float_value : (n : ℕ) (os text : List ℕ) → IsFloatValue os text → IsSome n text
float_value n os text h = go (float_in os) h
  where
    go : (o : Option (Format × Float)) → MatchOption o (text ≡ objects.null) (λ f. IsNumberOrNull f.0 f.1 text) → IsSome n text
    go None e = (json.null, subst (IsTextOf n json.null) (sym e) (null_is n))
    go (Some f) h = number_or_null n f.0 f.1 text h

-- ---- members

one_is : (n : ℕ) (name text : List ℕ) (j : Json) → are_plain name ≡ true → IsTextOf n j text → IsTextOf (suc n) (json.object (json.member name j json.no_members)) (one_field name text)
one_is n name text j plain is = object_is n (by n name text j plain is) [] (one_name name)

signed_short : (z : ℤ) → IsSigned z → IsShort z
signed_short (pos n) h = omega (arith, ints, h.1)
signed_short (negsuc n) h = omega (arith, ints, h.0)

-- octets in hexadecimal, under a name
hexadecimal_says : (name os text : List ℕ) → are_plain name ≡ true → AreOctets os → text ≡ one_field name (octets_value os) → (said : List ℕ)
    → value_said (json.object (json.member name (json.string (encode_lower os)) json.no_members)) ≡ said → Says 2 value_said text said
hexadecimal_says name os text plain small is said says =
    record { json = json.object (json.member name (json.string (encode_lower os)) json.no_members); is_text = subst (IsTextOf 2 _) (sym is) (one_is 1 name _ _ plain (octets_are 1 os small)); says = says }

abbrev time_json : UtcTime → Json
time_json t =
    json.object (json.member (codes "utc") (json.string (time_text t)) (json.member (codes "time") (string_or_null (date_text (moment_of t)))
    (json.member (codes "quality") (quality_json t.quality) json.no_members)))

time_is : (t : UtcTime) → t.quality < 256 → IsTextOf 2 (time_json t) (objects.object (time_fields (codes "utc") (codes "time") (codes "quality") t))
time_is t small =
    object_is 1 (by 1 (codes "utc") (in_quotes (time_text t)) (json.string (time_text t)) refl (octets_are 1 (written_time t) (written_octets t small)))
    (by 1 (codes "time") (date_value (moment_of t)) (string_or_null (date_text (moment_of t))) refl (date_is 1 (moment_of t))
    ∷ by 1 (codes "quality") (quality_value t.quality) (quality_json t.quality) refl (quality_is 0 t.quality) ∷ [])
    (are_distinct (codes "utc" ∷ codes "time" ∷ codes "quality" ∷ []) refl)

simple_says : (s : Simple) (c text : List ℕ) → AreOctets c → SpellsSimple s c → IsSimple s text → Says 2 value_said text (simple_text s)
simple_says (boolean b) c text small spelled is = record { json = json.boolean b; is_text = subst (IsTextOf 2 _) (sym is) (boolean_is 2 b); says = refl }
simple_says (bits unused os) c text small spelled is = record {
  json = json.object (json.member (codes "bits") (json.string (bits_text unused os)) json.no_members);
  is_text = subst (IsTextOf 2 _) (sym is) (one_is 1 (codes "bits") _ _ refl (plain_is 1 (bits_text unused os) (bits_text_plain unused os)));
  says = refl;
}
simple_says (integer z) c text small spelled is = record {
  json = json.object (json.member (codes "int") (json.number (signed_decimal z)) json.no_members);
  is_text = subst (IsTextOf 2 _) (sym is) (one_is 1 (codes "int") _ _ refl (signed_is 1 z (signed_short z (simple_spellable (integer z) c small spelled))));
  says = refl;
}
simple_says (unsigned n) c text small spelled is =
    record {
      json = json.object (json.member (codes "uint") (json.number (decimal n)) json.no_members);
      is_text = subst (IsTextOf 2 _) (sym is) (one_is 1 (codes "uint") _ _ refl (decimal_is 1 n (omega (arith, ints, (simple_spellable (unsigned n) c small spelled).1))));
      says = refl;
    }
simple_says (floating os) c text small spelled is =
    let value = float_value 1 os is.0 is.2 in
    record {
      json = json.object (json.member (codes "float") (json.string (encode_lower os)) (json.member (codes "value") value.0 json.no_members));
      is_text = subst (IsTextOf 2 _) (sym is.1) (
          object_is 1 (octets_field 1 (codes "float") os refl (subst AreOctets spelled.0 small)) (by 1 (codes "value") is.0 value.0 refl value.1 ∷ [])
          (are_distinct (codes "float" ∷ codes "value" ∷ []) refl)
          );
      says = refl;
    }
simple_says (octets os) c text small spelled is = hexadecimal_says (codes "oct") os text refl (subst AreOctets spelled small) is (simple_text (octets os)) refl
simple_says (binary_time os) c text small spelled is = hexadecimal_says (codes "btime") os text refl (subst AreOctets spelled.0 small) is (simple_text (binary_time os)) refl
simple_says (mms_text os) c text small spelled is = hexadecimal_says (codes "mms") os text refl (subst AreOctets spelled small) is (simple_text (mms_text os)) refl
simple_says (utc t) c text small spelled is = record { json = time_json t; is_text = subst (IsTextOf 2 _) (sym is) (time_is t (simple_spellable (utc t) c small spelled).2); says = refl }
simple_says (visible os) c text small spelled is = record { json = json.string os; is_text = subst (IsTextOf 2 _) (sym is) (visible_is 2 os spelled.1); says = refl }

-- an array or a structure, by its members
record ItemsSay (n : ℕ) (texts said : List (List ℕ)) : Type 0 where
  json : json.Items
  are_texts : AreTextsOf n json texts
  says : items_said json ≡ said

held_is : (L : ℕ) (name : List ℕ) (texts : List (List ℕ)) (js : json.Items) → are_plain name ≡ true → L ≤ 16 → AreTextsOf (36 - 2 * (L + 1)) js texts
    → IsTextOf (36 - 2 * L) (json.object (json.member name (json.array js) json.no_members)) (one_field name (objects.array texts))
held_is L name texts js plain low are =
    deeper _ (36 - 2 * L) _ _ (omega arith) (one_is (suc (36 - 2 * (L + 1))) name (objects.array texts) (json.array js) plain (array_is (36 - 2 * (L + 1)) js texts are))

mutual
  member_says : (d : Data) (L : ℕ) (o text : List ℕ) → AreOctets o → Spells d L o → IsMember d text → Says (36 - 2 * L) value_said text (value_text d)
  member_says (simple s) L o text small (low, c, elem, spelled) is =
      let said = simple_says s c text (contents_octets _ c o small elem) spelled is in
      record { json = said.json; is_text = deeper 2 (36 - 2 * L) said.json text (omega arith) said.is_text; says = said.says }
  member_says (array ds) L o text small (low, c, elem, spelled) is =
      let held = items_say ds (L + 1) c is.0 (contents_octets 161 c o small elem) spelled is.2 in
      record {
        json = json.object (json.member (codes "array") (json.array held.json) json.no_members);
        is_text = subst (IsTextOf (36 - 2 * L) _) (sym is.1) (held_is L (codes "array") is.0 held.json refl low held.are_texts);
        says = ap (λ (l : List (List ℕ)). 91 ∷ join_with_byte 32 l ++ 93 ∷ []) held.says;
      }
  member_says (structure ds) L o text small (low, c, elem, spelled) is =
      let held = items_say ds (L + 1) c is.0 (contents_octets 162 c o small elem) spelled is.2 in
      record {
        json = json.object (json.member (codes "structure") (json.array held.json) json.no_members);
        is_text = subst (IsTextOf (36 - 2 * L) _) (sym is.1) (held_is L (codes "structure") is.0 held.json refl low held.are_texts);
        says = ap (λ (l : List (List ℕ)). 40 ∷ join_with_byte 32 l ++ 41 ∷ []) held.says;
      }

  items_say : (ds : Items) (L : ℕ) (o : List ℕ) (texts : List (List ℕ)) → AreOctets o → SpellsItems ds L o → AreItems ds texts → ItemsSay (36 - 2 * L) texts (item_texts ds)
  items_say no_items L o [] small s is = record { json = json.no_items; are_texts = tt; says = refl }
  items_say (item d ds) L o (text ∷ texts) small (first, rest, spelled, more, parts) is =
      let all : AreOctets (first ++ rest) = subst AreOctets parts small in
      let one = member_says d L first text (front_octets first rest all) spelled is.0 in
      let others = items_say ds L rest texts (back_octets first rest all) more is.1 in
      record { json = json.item one.json others.json; are_texts = (one.is_text, others.are_texts); says = ap (λ (l : List ℕ). l ∷ items_said others.json) one.says ∙ ap (λ (l : List (List ℕ)). value_text d ∷ l) others.says }
  items_say _ L _ _ _ _ is = absurd is

-- the members of a data set are one value, which says what their words say
pub members_say : (ds : List Data) (o text : List ℕ) → AreOctets o → SpellsAll ds 1 o → AreMembers ds text → Says 35 members_said text (members_text ds)
members_say ds o text small spelled is =
    let items = items_say (items_of ds) 1 o is.0 small spelled is.2 in
    record {
      json = json.array items.json;
      is_text = subst (IsTextOf 35 _) (sym is.1) (array_is 34 items.json is.0 items.are_texts);
      says = ap (λ (l : List (List ℕ)). 123 ∷ join_with_byte 32 l ++ 125 ∷ []) (items.says ∙ item_texts_items_of ds);
    }

pub members_are_json : MembersAreJson
members_are_json ds o text small spelled is =
    let said = members_say ds o text small spelled is in
    let value = deeper 35 128 said.json text (omega arith) said.is_text in
    (said.json, read_back said.json text value, value.unique)
