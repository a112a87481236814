-- What is noted of an APDU stands where its headers were found.
use Rattle.std.proofs.Common.{◌≡◌, ℕ, ◌+◌, ◌-◌, ◌≤◌, ◌<◌, false, List, [], ◌∷◌, ◌++◌, length, take, drop, get_or, Ok, Option, Some, None, refl, sym, ap, subst, ◌∙◌, arith}
use Rattle.std.specs.Prelude.{slice_range, IfSome, is_some}
use Rattle.ber_core.specs.Element.{contents_of}
use Rattle.ber_core.specs.Fields.{IsField, SpellsFields, always, default, optional}
use Rattle.ber_core.specs.Length.{Len}
use Rattle.ber_core.specs.computed.FieldReading.{field_as, fields_at, required_at, there_at}
use Rattle.ber_core.specs.computed.Reading.{IsWithin}
use Rattle.ber_core.specs.declared.element.Header.{Header}
use Rattle.ber_core.proofs.Steps.{pair_is}
use Rattle.mms_data.specs.Data.{Data}
use Rattle.pdu_core.specs.Contents.{Item, text, number, flag, time, members, a_flag, a_text, some_members, contents_grammar}
use Rattle.pdu_core.specs.computed.ContentsReading.{item_at}
use Rattle.pdu_core.specs.Goose.{SpellsGoose, goose_fields, goose_items, text_if}
use Rattle.pdu_core.specs.declared.goose.GoosePdu.{GoosePdu}
use Rattle.pdu_core.proofs.Items.{items_sound}
use Rattle.repeat_core.specs.Noted.{IsBetween, noted_pdu, part_if}
use Rattle.repeat_core.specs.Noting.{IsNoted, part_behind, place_behind}
use Rattle.repeat_core.specs.Standing.{Around, StandsAround}
use Rattle.repeat_core.specs.declared.notes.Notes.{Notes}
use Rattle.repeat_core.specs.declared.notes.Part.{Part}
use Rattle.repeat_core.proofs.Joined.{none, step}
use Rattle.repeat_core.proofs.MembersHere.{spelled_there}
use Rattle.repeat_core.proofs.Walking.{Read, Value, fields_found, front_found, read_next, read_next_if, reading_if}

-- a header that was found at a place
pub record Found (id : ℕ) (o : List ℕ) (p e : ℕ) (h : Header) : Type 0 where
  pub exact : required_at id o p e ≡ Ok h
  pub found : IsField id o p e h
  pub places : IsWithin p e h

-- a header that was found at a place, or none
pub record FoundIf (id : ℕ) (o : List ℕ) (p e : ℕ) (m : Option Header) : Type 0 where
  pub exact : there_at id o p e ≡ Ok m
  pub places : IfSome m (λ h. IsWithin p e h)

-- ---- orders of places

through : {a b c : ℕ} → a ≤ b → b ≤ c → a ≤ c
through low high = omega (arith, low, high)

itself : (a : ℕ) → a ≤ a
itself a = omega arith

from_none : (a : ℕ) → 0 ≤ a
from_none a = omega arith

as_is : {a b : ℕ} → a ≡ b → a ≤ b
as_is same = omega (arith, same)

-- an element ends behind its place, and its contents begin there
on : {p e : ℕ} {h : Header} → IsWithin p e h → p ≤ h.contents_to
on w = omega (arith, w.begins, w.order)

starts : {p e : ℕ} {h : Header} → IsWithin p e h → p ≤ h.contents_from
starts w = omega (arith, w.begins)

begins_at : {p e : ℕ} {h : Header} → IsWithin p e h → h.at < h.contents_from
begins_at w = omega (arith, w.at, w.begins)

-- the place behind lies behind
behind_order : (id : ℕ) (o : List ℕ) (p e : ℕ) (m : Option Header) → p ≤ e → FoundIf id o p e m → (p ≤ place_behind p m) × (place_behind p m ≤ e)
behind_order id o p e None order f = (omega arith, order)
behind_order id o p e (Some h) order f = let w = f.places in (omega (arith, w.at, w.begins, w.order), w.within)

-- the contents of a text
text_is : (o : List ℕ) (h : Header) (x : Item) (t : List ℕ) → h.contents_from ≤ h.contents_to → h.contents_to ≤ length o → item_at text o h ≡ Ok x → x ≡ a_text t → contents_of o h ≡ t
text_is o h x t order within is same = (items_sound.finds text o h (a_text t) (order, within) (is ∙ ap (λ (y : Item). Ok y) same)).0

some_is : (x y : Item) → ◌≡◌ {A = Option Item} (Some x) (Some y) → x ≡ y
some_is x y e = cc

text_if_is : (o : List ℕ) (p e : ℕ) (m : Option Header) (v : Option Item) (t : Option (List ℕ)) → e ≤ length o → IfSome m (λ h. IsWithin p e h) → Value o e text None m v → v ≡ text_if t → part_if (is_some m) o (part_behind p m) ≡ t
text_if_is o p e None v None within w means is = refl
text_if_is o p e None v (Some t) within w means is = absurd (let wrong = sym means ∙ is in cc)
text_if_is o p e (Some h) v None within w (x, read, same) is = absurd (let wrong = sym same ∙ is in cc)
text_if_is o p e (Some h) v (Some t) within w (x, read, same) is = ap (λ (y : List ℕ). Some y) (text_is o h x t w.order (omega (arith, w.within, within)) read (some_is x (a_text t) (sym same ∙ is)))

part_between : (id : ℕ) (o : List ℕ) (p e : ℕ) (m : Option Header) (high : ℕ) → place_behind p m ≤ high → FoundIf id o p e m → IsBetween p high (part_behind p m)
part_between id o p e None high top f = record { begins = omega arith; ordered = omega arith; ends = top }
part_between id o p e (Some h) high top f = let w = f.places in record { begins = omega (arith, w.at, w.begins); ordered = w.order; ends = top }

widened : {a b high : ℕ} {q : Part} → IsBetween a high q → b ≤ a → IsBetween b high q
widened w low = record { begins = omega (arith, w.begins, low); ordered = w.ordered; ends = w.ends }

-- the parts of an APDU decide it
pdu_parts : (o : List ℕ) (n : Notes) (p : GoosePdu (Unit {0})) → noted_pdu {A = Unit {0}} o n 0 0 ≡ record p { live = 0; sq_num = 0 } → StandsAround p o n → StandsAround (noted_pdu o n 0 0) o n
pdu_parts o n p is s = subst (λ (q : GoosePdu (Unit {0})). StandsAround q o n) (sym is) s

-- ---- the fields, a few at a time

module _ (o : List ℕ) (e : ℕ) (r : List (Option Item) × ℕ) where
  -- gocbRef, timeAllowedtoLive and datSet
  record First (p : ℕ) (h0 h1 h2 : Header) : Type 0 where
    x0 : Item
    x1 : Item
    x2 : Item
    c0 : item_at text o h0 ≡ Ok x0
    c2 : item_at text o h2 ≡ Ok x2
    f0 : field_as item_at 0x80 text always o p e ≡ Ok (Some x0, h0.contents_to)
    f2 : field_as item_at 0x82 text always o h1.contents_to e ≡ Ok (Some x2, h2.contents_to)
    others : fields_at item_at (drop 3 goose_fields) (Some x0 ∷ Some x1 ∷ Some x2 ∷ []) o h2.contents_to e ≡ Ok r

  first : (p : ℕ) (h0 h1 h2 : Header) → required_at 0x80 o p e ≡ Ok h0 → required_at 0x81 o h0.contents_to e ≡ Ok h1 → required_at 0x82 o h1.contents_to e ≡ Ok h2 → fields_at item_at goose_fields [] o p e ≡ Ok r → First p h0 h1 h2
  first p h0 h1 h2 e0 e1 e2 all =
      let s0 = read_next o e 0x80 text (drop 1 goose_fields) [] p h0 r e0 all in
      let s1 = read_next o e 0x81 number (drop 2 goose_fields) (Some s0.item ∷ []) h0.contents_to h1 r e1 s0.others in
      let s2 = read_next o e 0x82 text (drop 3 goose_fields) (Some s0.item ∷ Some s1.item ∷ []) h1.contents_to h2 r e2 s1.others in
      record { x0 = s0.item; x1 = s1.item; x2 = s2.item; c0 = s0.contents; c2 = s2.contents; f0 = s0.field; f2 = s2.field; others = s2.others }

  -- goID and t, behind three values
  record Second (us : List (Option Item)) (p : ℕ) (m3 : Option Header) (h4 : Header) : Type 0 where
    v3 : Option Item
    x4 : Item
    means : Value o e text None m3 v3
    f3 : reading_if o e 0x83 text None p ≡ Ok (v3, place_behind p m3)
    f4 : field_as item_at 0x84 time always o (place_behind p m3) e ≡ Ok (Some x4, h4.contents_to)
    others : fields_at item_at (drop 5 goose_fields) ((us ++ v3 ∷ []) ++ Some x4 ∷ []) o h4.contents_to e ≡ Ok r

  second : (us : List (Option Item)) (p : ℕ) (m3 : Option Header) (h4 : Header) → there_at 0x83 o p e ≡ Ok m3 → required_at 0x84 o (place_behind p m3) e ≡ Ok h4 → fields_at item_at (drop 3 goose_fields) us o p e ≡ Ok r → Second us p m3 h4
  second us p m3 h4 e3 e4 all =
      let s3 = read_next_if o e 0x83 text None (drop 4 goose_fields) us p m3 r e3 all in
      let s4 = read_next o e 0x84 time (drop 5 goose_fields) (us ++ s3.value ∷ []) (place_behind p m3) h4 r e4 s3.others in
      record { v3 = s3.value; x4 = s4.item; means = s3.means; f3 = s3.field; f4 = s4.field; others = s4.others }

  -- stNum and sqNum, behind five values
  record Third (us : List (Option Item)) (p : ℕ) (h5 h6 : Header) : Type 0 where
    x5 : Item
    x6 : Item
    f5 : field_as item_at 0x85 number always o p e ≡ Ok (Some x5, h5.contents_to)
    others : fields_at item_at (drop 7 goose_fields) ((us ++ Some x5 ∷ []) ++ Some x6 ∷ []) o h6.contents_to e ≡ Ok r

  third : (us : List (Option Item)) (p : ℕ) (h5 h6 : Header) → required_at 0x85 o p e ≡ Ok h5 → required_at 0x86 o h5.contents_to e ≡ Ok h6 → fields_at item_at (drop 5 goose_fields) us o p e ≡ Ok r → Third us p h5 h6
  third us p h5 h6 e5 e6 all =
      let s5 = read_next o e 0x85 number (drop 6 goose_fields) us p h5 r e5 all in
      let s6 = read_next o e 0x86 number (drop 7 goose_fields) (us ++ Some s5.item ∷ []) h5.contents_to h6 r e6 s5.others in
      record { x5 = s5.item; x6 = s6.item; f5 = s5.field; others = s6.others }

  -- simulation and confRev, behind seven values
  record Fourth (us : List (Option Item)) (p : ℕ) (m7 : Option Header) (h8 : Header) : Type 0 where
    v7 : Option Item
    x8 : Item
    f7 : reading_if o e 0x87 flag (Some (a_flag false)) p ≡ Ok (v7, place_behind p m7)
    f8 : field_as item_at 0x88 number always o (place_behind p m7) e ≡ Ok (Some x8, h8.contents_to)
    others : fields_at item_at (drop 9 goose_fields) ((us ++ v7 ∷ []) ++ Some x8 ∷ []) o h8.contents_to e ≡ Ok r

  fourth : (us : List (Option Item)) (p : ℕ) (m7 : Option Header) (h8 : Header) → there_at 0x87 o p e ≡ Ok m7 → required_at 0x88 o (place_behind p m7) e ≡ Ok h8 → fields_at item_at (drop 7 goose_fields) us o p e ≡ Ok r → Fourth us p m7 h8
  fourth us p m7 h8 e7 e8 all =
      let s7 = read_next_if o e 0x87 flag (Some (a_flag false)) (drop 8 goose_fields) us p m7 r e7 all in
      let s8 = read_next o e 0x88 number (drop 9 goose_fields) (us ++ s7.value ∷ []) (place_behind p m7) h8 r e8 s7.others in
      record { v7 = s7.value; x8 = s8.item; f7 = s7.field; f8 = s8.field; others = s8.others }

  -- ndsCom and the count, behind nine values
  record Fifth (us : List (Option Item)) (p : ℕ) (m9 : Option Header) (ha : Header) : Type 0 where
    v9 : Option Item
    xa : Item
    f9 : reading_if o e 0x89 flag (Some (a_flag false)) p ≡ Ok (v9, place_behind p m9)
    fa : field_as item_at 0x8a number always o (place_behind p m9) e ≡ Ok (Some xa, ha.contents_to)
    others : fields_at item_at (drop 11 goose_fields) ((us ++ v9 ∷ []) ++ Some xa ∷ []) o ha.contents_to e ≡ Ok r

  fifth : (us : List (Option Item)) (p : ℕ) (m9 : Option Header) (ha : Header) → there_at 0x89 o p e ≡ Ok m9 → required_at 0x8a o (place_behind p m9) e ≡ Ok ha → fields_at item_at (drop 9 goose_fields) us o p e ≡ Ok r → Fifth us p m9 ha
  fifth us p m9 ha e9 ea all =
      let s9 = read_next_if o e 0x89 flag (Some (a_flag false)) (drop 10 goose_fields) us p m9 r e9 all in
      let sa = read_next o e 0x8a number (drop 11 goose_fields) (us ++ s9.value ∷ []) (place_behind p m9) ha r ea s9.others in
      record { v9 = s9.value; xa = sa.item; f9 = s9.field; fa = sa.field; others = sa.others }

module _ (o : List ℕ) (place end : ℕ) (p : GoosePdu (Unit {0})) (entries : ℕ) (counted : entries ≡ length p.members) (order : place + 10 ≤ end) (within : end ≤ length o)
    (spelled : SpellsGoose p (slice_range o (place + 10) end))
    (h h0 h1 h2 : Header) (m3 : Option Header) (h4 h5 h6 : Header) (m7 : Option Header) (h8 : Header) (m9 : Option Header) (ha hb : Header)
    (f : Found 0x61 o (place + 10) end h)
    (f0 : Found 0x80 o h.contents_from h.contents_to h0)
    (f1 : Found 0x81 o h0.contents_to h.contents_to h1)
    (f2 : Found 0x82 o h1.contents_to h.contents_to h2)
    (f3 : FoundIf 0x83 o h2.contents_to h.contents_to m3)
    (f4 : Found 0x84 o (place_behind h2.contents_to m3) h.contents_to h4)
    (f5 : Found 0x85 o h4.contents_to h.contents_to h5)
    (f6 : Found 0x86 o h5.contents_to h.contents_to h6)
    (f7 : FoundIf 0x87 o h6.contents_to h.contents_to m7)
    (f8 : Found 0x88 o (place_behind h6.contents_to m7) h.contents_to h8)
    (f9 : FoundIf 0x89 o h8.contents_to h.contents_to m9)
    (fa : Found 0x8a o (place_behind h8.contents_to m9) h.contents_to ha)
    (fb : Found 0xab o ha.contents_to h.contents_to hb) where
  abbrev to : ℕ
  to = h.contents_to

  abbrev notes : Notes
  notes = record {
    ether_type = place;
    end = end;
    live = h1;
    sq_num = h6;
    gocb_ref = record { from = h0.contents_from; to = h0.contents_to };
    dat_set = record { from = h2.contents_from; to = h2.contents_to };
    has_go_id = is_some m3;
    go_id = part_behind h2.contents_to m3;
    t = p.t;
    st_num = p.st_num;
    simulation = p.simulation;
    conf_rev = p.conf_rev;
    nds_com = p.nds_com;
    entries = entries;
    members = record { from = hb.contents_from; to = hb.contents_to };
  }

  module _ (whole : to ≡ end) (inside : to ≤ length o)
      (a : First o to (goose_items p, to) h.contents_from h0 h1 h2)
      (b : Second o to (goose_items p, to) (Some a.x0 ∷ Some a.x1 ∷ Some a.x2 ∷ []) h2.contents_to m3 h4)
      (c : Third o to (goose_items p, to) (Some a.x0 ∷ Some a.x1 ∷ Some a.x2 ∷ b.v3 ∷ Some b.x4 ∷ []) h4.contents_to h5 h6)
      (d : Fourth o to (goose_items p, to) (Some a.x0 ∷ Some a.x1 ∷ Some a.x2 ∷ b.v3 ∷ Some b.x4 ∷ Some c.x5 ∷ Some c.x6 ∷ []) h6.contents_to m7 h8)
      (g : Fifth o to (goose_items p, to) (Some a.x0 ∷ Some a.x1 ∷ Some a.x2 ∷ b.v3 ∷ Some b.x4 ∷ Some c.x5 ∷ Some c.x6 ∷ d.v7 ∷ Some d.x8 ∷ []) h8.contents_to m9 ha)
      (z : Read o to 0xab members [] (Some a.x0 ∷ Some a.x1 ∷ Some a.x2 ∷ b.v3 ∷ Some b.x4 ∷ Some c.x5 ∷ Some c.x6 ∷ d.v7 ∷ Some d.x8 ∷ g.v9 ∷ Some g.xa ∷ []) ha.contents_to hb (goose_items p, to)) where
    abbrev vb : List (Option Item)
    vb = Some a.x0 ∷ Some a.x1 ∷ Some a.x2 ∷ b.v3 ∷ Some b.x4 ∷ Some c.x5 ∷ Some c.x6 ∷ d.v7 ∷ Some d.x8 ∷ g.v9 ∷ Some g.xa ∷ Some z.item ∷ []

    done : (goose_items p ≡ vb) × (to ≡ hb.contents_to)
    done = pair_is vb (goose_items p) hb.contents_to to z.others

    noted_so : IsNoted p o notes
    noted_so =
        let same = done.0 in
        let p3 = place_behind h2.contents_to m3 in
        let p7 = place_behind h6.contents_to m7 in
        let p9 = place_behind h8.contents_to m9 in
        let w0 = f0.places in
        let w1 = f1.places in
        let w2 = f2.places in
        let w4 = f4.places in
        let w5 = f5.places in
        let w6 = f6.places in
        let w8 = f8.places in
        let wa = fa.places in
        let wb = fb.places in
        let b3 = behind_order 0x83 o h2.contents_to to m3 w2.within f3 in
        let b7 = behind_order 0x87 o h6.contents_to to m7 w6.within f7 in
        let b9 = behind_order 0x89 o h8.contents_to to m9 w8.within f9 in
        let gocb_ref : contents_of o h0 ≡ p.gocb_ref = text_is o h0 a.x0 p.gocb_ref w0.order (through w0.within inside) a.c0 (some_is a.x0 (a_text p.gocb_ref) (sym (ap (λ (l : List (Option Item)). get_or l 0 None) same))) in
        let dat_set : contents_of o h2 ≡ p.dat_set = text_is o h2 a.x2 p.dat_set w2.order (through w2.within inside) a.c2 (some_is a.x2 (a_text p.dat_set) (sym (ap (λ (l : List (Option Item)). get_or l 2 None) same))) in
        let go_id : part_if (is_some m3) o (part_behind h2.contents_to m3) ≡ p.go_id = text_if_is o h2.contents_to to m3 b.v3 p.go_id inside f3.places b.means (sym (ap (λ (l : List (Option Item)). get_or l 3 None) same)) in
        let listed : z.item ≡ some_members p.members = some_is z.item (some_members p.members) (sym (ap (λ (l : List (Option Item)). get_or l 11 None) same)) in
        let there = spelled_there (contents_of o hb) p.members (items_sound.finds members o hb (some_members p.members) (wb.order, through wb.within inside) (z.contents ∙ ap (λ (y : Item). Ok y) listed)) in
        let pdu : noted_pdu {A = Unit {0}} o notes 0 0 ≡ record p { live = 0; sq_num = 0 } = rw (gocb_ref, dat_set, go_id, there.1) refl in
        let n1 : h1.at ≡ h0.contents_to = w1.at in
        let n6 : h6.at ≡ h5.contents_to = w6.at in
        let front : h.contents_from ≤ h1.at = subst (λ (k : ℕ). h.contents_from ≤ k) (sym n1) (on w0) in
        let last : h2.contents_to ≤ h6.at = subst (λ (k : ℕ). h2.contents_to ≤ k) (sym n6) (through b3.0 (through (on w4) (on w5))) in
        let before = step o to inside (record { identifier = 0x80; kind = text; presence = always }) [] (Some a.x0) [] h.contents_from h0.contents_to h0.contents_to refl (on w0) w0.within (itself h0.contents_to) a.f0
        (none o to inside h0.contents_to h0.contents_to (itself h0.contents_to)) in
        let between5 = step o to inside (record { identifier = 0x85; kind = number; presence = always }) [] (Some c.x5) [] h4.contents_to h5.contents_to h5.contents_to refl (on w5) w5.within (itself h5.contents_to) c.f5
        (none o to inside h5.contents_to h5.contents_to (itself h5.contents_to)) in
        let between4 = step o to inside (record { identifier = 0x84; kind = time; presence = always }) (take 1 (drop 5 goose_fields)) (Some b.x4) (take 1 (drop 5 vb)) p3 h4.contents_to h5.contents_to refl (on w4) w4.within
        (on w5) b.f4 between5 in
        let between3 = step o to inside (record { identifier = 0x83; kind = text; presence = optional }) (take 2 (drop 4 goose_fields)) b.v3 (take 2 (drop 4 vb)) h2.contents_to p3 h5.contents_to refl b3.0 b3.1
        (through (on w4) (on w5)) b.f3 between4 in
        let between = step o to inside (record { identifier = 0x82; kind = text; presence = always }) (take 3 (drop 3 goose_fields)) (Some a.x2) (take 3 (drop 3 vb)) h1.contents_to h2.contents_to h5.contents_to refl (on w2) w2.within
        (through b3.0 (through (on w4) (on w5))) a.f2 between3 in
        let afterb = step o to inside (record { identifier = 0xab; kind = members; presence = always }) [] (Some z.item) [] ha.contents_to hb.contents_to to refl (on wb) wb.within wb.within z.field
        (none o to inside hb.contents_to to (as_is done.1)) in
        let aftera = step o to inside (record { identifier = 0x8a; kind = number; presence = always }) (drop 11 goose_fields) (Some g.xa) (drop 11 vb) p9 ha.contents_to to refl (on wa) wa.within wa.within g.fa afterb in
        let after9 = step o to inside (record { identifier = 0x89; kind = flag; presence = default (a_flag false) }) (drop 10 goose_fields) g.v9 (drop 10 vb) h8.contents_to p9 to refl b9.0 b9.1 b9.1 g.f9 aftera in
        let after8 = step o to inside (record { identifier = 0x88; kind = number; presence = always }) (drop 9 goose_fields) (Some d.x8) (drop 9 vb) p7 h8.contents_to to refl (on w8) w8.within w8.within d.f8 after9 in
        let after = step o to inside (record { identifier = 0x87; kind = flag; presence = default (a_flag false) }) (drop 8 goose_fields) d.v7 (drop 8 vb) h6.contents_to p7 to refl b7.0 b7.1 b7.1 d.f7 after8 in
        let top = front_found 0x61 o (place + 10) end h within f.found f.places in
        let around : Around (take 1 vb) (take 4 (drop 2 vb)) (drop 7 vb) o notes = record {
          contents_from = h.contents_from;
          size = top.size;
          begins = starts f.places;
          front = front;
          header = ap (λ (i : ℕ). slice_range o i h.contents_from) (sym f.places.at) ∙ top.header;
          sized = subst (λ (k : ℕ). Len (k - h.contents_from) top.size) whole top.sized;
          before = subst (λ (k : ℕ). SpellsFields contents_grammar (take 1 goose_fields) (take 1 vb) (slice_range o h.contents_from k)) (sym n1) before;
          between = subst (λ (k : ℕ). SpellsFields contents_grammar (take 4 (drop 2 goose_fields)) (take 4 (drop 2 vb)) (slice_range o h1.contents_to k)) (sym n6) between;
          after = subst (λ (k : ℕ). SpellsFields contents_grammar (drop 7 goose_fields) (drop 7 vb) (slice_range o h6.contents_to k)) whole after;
          live = front_found 0x81 o h0.contents_to to h1 inside f1.found f1.places;
          sq_num = front_found 0x86 o h5.contents_to to h6 inside f6.found f6.places;
        } in
        record {
          placed = record {
            apdu = through (starts f.places) front;
            live = begins_at w1;
            live_ends = w1.order;
            between = through (on w2) last;
            sq_num = begins_at w6;
            sq_num_ends = w6.order;
            behind = subst (λ (k : ℕ). h6.contents_to ≤ k) whole w6.within;
            inside = within;
            gocb_ref = record { begins = from_none h0.contents_from; ordered = w0.order; ends = as_is (sym n1) };
            dat_set = record { begins = starts w2; ordered = w2.order; ends = last };
            go_id = widened (part_between 0x83 o h2.contents_to to m3 h6.at (subst (λ (k : ℕ). place_behind h2.contents_to m3 ≤ k) (sym n6) (through (on w4) (on w5))) f3) (on w2);
            members = record { begins = through b7.0 (through (on w8) (through b9.0 (through (on wa) (starts wb)))); ordered = wb.order; ends = subst (λ (k : ℕ). hb.contents_to ≤ k) whole wb.within };
          };
          members = record { spelled = there.0; counted = counted ∙ ap (λ (ds : List Data). length ds) (sym there.1) };
          pdu = pdu;
          around = pdu_parts o notes p pdu (subst (λ (l : List (Option Item)). Around (take 1 l) (take 4 (drop 2 l)) (drop 7 l) o notes) (sym same) around);
        }

  abbrev Behind3 : Type 0
  Behind3 = First o to (goose_items p, to) h.contents_from h0 h1 h2

  module _ (whole : to ≡ end) (a : Behind3) where
    inside : to ≤ length o
    inside = subst (λ (k : ℕ). k ≤ length o) (sym whole) within

    after_second : (b : Second o to (goose_items p, to) (Some a.x0 ∷ Some a.x1 ∷ Some a.x2 ∷ []) h2.contents_to m3 h4) → IsNoted p o notes
    after_second b = after_third (third o to (goose_items p, to) (Some a.x0 ∷ Some a.x1 ∷ Some a.x2 ∷ b.v3 ∷ Some b.x4 ∷ []) h4.contents_to h5 h6 f5.exact f6.exact b.others) where
      after_third : (c : Third o to (goose_items p, to) (Some a.x0 ∷ Some a.x1 ∷ Some a.x2 ∷ b.v3 ∷ Some b.x4 ∷ []) h4.contents_to h5 h6) → IsNoted p o notes
      after_third c = after_fourth (fourth o to (goose_items p, to) (Some a.x0 ∷ Some a.x1 ∷ Some a.x2 ∷ b.v3 ∷ Some b.x4 ∷ Some c.x5 ∷ Some c.x6 ∷ []) h6.contents_to m7 h8 f7.exact f8.exact c.others) where
        after_fourth : (d : Fourth o to (goose_items p, to) (Some a.x0 ∷ Some a.x1 ∷ Some a.x2 ∷ b.v3 ∷ Some b.x4 ∷ Some c.x5 ∷ Some c.x6 ∷ []) h6.contents_to m7 h8) → IsNoted p o notes
        after_fourth d = after_fifth (fifth o to (goose_items p, to) (Some a.x0 ∷ Some a.x1 ∷ Some a.x2 ∷ b.v3 ∷ Some b.x4 ∷ Some c.x5 ∷ Some c.x6 ∷ d.v7 ∷ Some d.x8 ∷ []) h8.contents_to m9 ha f9.exact fa.exact d.others) where
          after_fifth : (g : Fifth o to (goose_items p, to) (Some a.x0 ∷ Some a.x1 ∷ Some a.x2 ∷ b.v3 ∷ Some b.x4 ∷ Some c.x5 ∷ Some c.x6 ∷ d.v7 ∷ Some d.x8 ∷ []) h8.contents_to m9 ha) → IsNoted p o notes
          after_fifth g = noted_so whole inside a b c d g (read_next o to 0xab members [] (Some a.x0 ∷ Some a.x1 ∷ Some a.x2 ∷ b.v3 ∷ Some b.x4 ∷ Some c.x5 ∷ Some c.x6 ∷ d.v7 ∷ Some d.x8 ∷ g.v9 ∷ Some g.xa ∷ []) ha.contents_to hb (goose_items p, to) fb.exact g.others)

    after_first : IsNoted p o notes
    after_first = after_second (second o to (goose_items p, to) (Some a.x0 ∷ Some a.x1 ∷ Some a.x2 ∷ []) h2.contents_to m3 h4 f3.exact f4.exact a.others)

  pub noted : IsNoted p o notes
  noted =
      let all = fields_found p o (place + 10) end h order within f.exact spelled in
      let r : List (Option Item) × ℕ = (goose_items p, to) in
      let a = first o to r h.contents_from h0 h1 h2 f0.exact f1.exact f2.exact all.1 in
      after_first all.0 a
