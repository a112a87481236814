-- The line of a frame of GOOSE around its two numbers.
use Rattle.std.proofs.Common.{◌≡◌, ℕ, ◌-◌, List, [], ◌++◌, length, take, drop, Ok, Bool, true, false, ap, ap₂, refl, sym, subst, ◌∙◌, append_assoc, arith, length-append}
use Rattle.std.proofs.Math.Seq.{drop-append_seam, take-append_seam, take-length}
use Rattle.std.proofs.lemmas.List.{append-nil}
use Rattle.std.specs.Prelude.{codes, slice_range}
use Rattle.std.specs.Fmt.{decimal}
use Rattle.pdu_core.specs.declared.goose.GoosePdu.{GoosePdu}
use Rattle.frame_core.specs.computed.FrameReading.{frame_at}
use Rattle.frame_core.specs.declared.frame.Apdu.{Apdu}
use Rattle.frame_core.specs.declared.frame.Apdu.TheVariants as apdu
use Rattle.frame_core.specs.declared.frame.Frame.{Frame}
use Rattle.text_core.specs.Pieces.{boolean_text, quoted, quoted_or_dash}
use Rattle.text_core.specs.ValueText.{members_text, time_text}
use Rattle.object_core.specs.Objects.{date_value, in_quotes, text_or_null}
use Rattle.object_core.specs.Times.{moment_of, quality_value}
use Rattle.frame_engines.specs.FrameText.{envelope_text, frame_line, trailer_text}
use Rattle.object_core.specs.EventObject.{event_fields}
use Rattle.object_core.specs.MemberObject.{AreMembers}
use Rattle.object_core.specs.Objects.{opened}
use Rattle.object_core.specs.declared.counted.Counted.{Counted}
use Rattle.repeat_core.specs.Beside.{IsNumbered}
use Rattle.repeat_core.specs.Numbered.{apdu_numbered, frame_numbered, goose_numbered, unnumbered}
use Rattle.frame_engines.proofs.FrameObjects.{IsRest, frame_parts}
use Rattle.frame_engines.proofs.GooseFields.{front_pieces, name_pieces}
use Rattle.frame_engines.proofs.ObjectTexts.{last_piece}
use Rattle.frame_engines.proofs.SettledTexts.{settled_has}
use Rattle.frame_engines.specs.FrameObject.{IsFrameObject, apdu_kind, envelope_fields, goose_fields}
use Rattle.frame_engines.specs.ShowObject.{IsAnswerObject}
use Rattle.frame_engines.specs.computed.KeptLine.{KeepsLine, before_members, behind_head, members_of, object_end, with_numbers}
use Rattle.frame_engines.specs.computed.KeptPieces.{line_back, line_front, line_middle, object_back, object_front, object_middle, object_tail}
use Rattle.frame_engines.specs.computed.ObjectFields.{next_fields}
use Rattle.frame_engines.specs.computed.SettledMembers.{are_settled, settled_array}

-- what stands between two others
part : (a b d : List ℕ) (n : ℕ) → n ≡ length b → take n (drop (length a) (a ++ (b ++ d))) ≡ b
part a b d n e = ap (take n) (drop-append_seam a (b ++ d)) ∙ ap (λ (i : ℕ). take i (b ++ d)) e ∙ take-append_seam b d

front : (a b d : List ℕ) → slice_range ((a ++ b) ++ d) 0 (length a) ≡ a
front a b d =
    let size : length a - 0 ≡ length a = omega arith in
    ap (λ (i : ℕ). take i ((a ++ b) ++ d)) size ∙ ap (take (length a)) (append_assoc a b d) ∙ take-append_seam a (b ++ d)

middle : (a b d : List ℕ) → slice_range ((a ++ b) ++ d) (length a) (length (a ++ b)) ≡ b
middle a b d =
    let size : length (a ++ b) - length a ≡ length b = omega (arith, length-append a b) in
    ap (λ (l : List ℕ). take (length (a ++ b) - length a) (drop (length a) l)) (append_assoc a b d) ∙ part a b d _ size

back : (a d : List ℕ) → slice_range (a ++ d) (length a) (length (a ++ d)) ≡ d
back a d =
    let size : length (a ++ d) - length a ≡ length d = omega (arith, length-append a d) in
    ap (take (length (a ++ d) - length a)) (drop-append_seam a d) ∙ ap (λ (i : ℕ). take i d) size ∙ take-length d

-- the numbers stand where its three parts meet
cut_parts : (text a b d : List ℕ) (first second live sq_num : ℕ) → text ≡ (a ++ b) ++ d → first ≡ length a → second ≡ length (a ++ b)
    → a ++ (decimal live ++ (b ++ (decimal sq_num ++ d))) ≡ with_numbers text first second live sq_num
cut_parts text a b d first second live sq_num e p q = rw (e, p, q, front, middle, back (a ++ b) d) (simp append_assoc)

-- the pieces of a line, as they are kept
line_regrouped : (n goose env ref l live set id t time st s sq sim rev needs space members end q newline : List ℕ)
    → n ++ (goose ++ (env ++ ((ref ++ ((l ++ live) ++ (set ++ (id ++ (t ++ (time ++ (st ++ ((s ++ sq) ++ (sim ++ (rev ++ (needs ++ (space ++ (members ++ ([])))))))))))))) ++ ((end ++ q) ++ (newline ++ ([]))))))
    ≡ n ++ ((goose ++ (env ++ (ref ++ (l ++ ([]))))) ++ (live ++ ((set ++ (id ++ ((t ++ time) ++ (st ++ (s ++ ([])))))) ++ (sq ++ (sim ++ (rev ++ (needs ++ (space ++ (members ++ (((end ++ q) ++ newline) ++ ([])))))))))))
line_regrouped n goose env ref l live set id t time st s sq sim rev needs space members end q newline = simp (append_assoc, append-nil)

-- the same of an object
object_regrouped : (env ref l live set id t date quality st s sq sim rev needs name : List ℕ)
    → env ++ (ref ++ ((l ++ live) ++ (set ++ (id ++ (t ++ (date ++ (quality ++ ((st) ++ ((s ++ sq) ++ (sim ++ (rev ++ (needs ++ (name ++ ([]))))))))))))))
    ≡ (env ++ (ref ++ (l ++ ([])))) ++ (live ++ ((set ++ (id ++ (t ++ (date ++ (quality ++ (st ++ (s ++ ([])))))))) ++ (sq ++ (sim ++ (rev ++ (needs ++ (name ++ ([]))))))))
object_regrouped env ref l live set id t date quality st s sq sim rev needs name = simp (append_assoc, append-nil)

-- the text of these three parts is kept of the line of a frame
pub line_kept : {A : Type 0} (f : Frame A) (p : GoosePdu A) → f.apdu ≡ apdu.Goose p → (text : List ℕ) (first second : ℕ)
    → text ≡ (line_front f p ++ line_middle p) ++ line_back f p → first ≡ length (line_front f p) → second ≡ length (line_front f p ++ line_middle p)
    → KeepsLine false true text first second f
line_kept f p is text first second whole low high n live sq_num = rw is (
    line_regrouped (decimal n) (codes " goose ") (envelope_text f) (codes " ref=" ++ quoted p.gocb_ref) (codes " live=") (decimal live) (codes " set=" ++ quoted p.dat_set)
    (codes " id=" ++ quoted_or_dash p.go_id) (codes " t=") (time_text p.t) (codes " st=" ++ decimal p.st_num) (codes " sq=") (decimal sq_num) (codes " sim=" ++ boolean_text p.simulation)
    (codes " rev=" ++ decimal p.conf_rev) (codes " com=" ++ boolean_text p.nds_com) (codes " ") (members_text p.members) (codes " trailer=") (trailer_text f.trailer) (codes "\n")
    ∙ ap (λ (l : List ℕ). decimal n ++ l) (cut_parts text (line_front f p) (line_middle p) (line_back f p) first second live sq_num whole low high))

-- what stands in the object of a frame between its head and its members
abbrev front_of : {A : Type 0} → Frame A → GoosePdu A → List ℕ
front_of f p = next_fields (envelope_fields f) ++ next_fields (goose_fields p [])

front_numbered : {A : Type 0} (f : Frame A) (p : GoosePdu A) (live sq_num : ℕ)
    → front_of f (goose_numbered live sq_num p) ≡ object_front f p ++ (decimal live ++ (object_middle p ++ (decimal sq_num ++ object_back p)))
front_numbered f p live sq_num =
    object_regrouped (next_fields (envelope_fields f)) (codes ",\"gocbRef\":" ++ quoted p.gocb_ref) (codes ",\"timeAllowedtoLive\":") (decimal live) (codes ",\"datSet\":" ++ quoted p.dat_set)
    (codes ",\"goID\":" ++ text_or_null p.go_id) (codes ",\"t\":" ++ in_quotes (time_text p.t)) (codes ",\"tTime\":" ++ date_value (moment_of p.t)) (codes ",\"tQuality\":" ++ quality_value p.t.quality)
    (codes ",\"stNum\":" ++ decimal p.st_num) (codes ",\"sqNum\":") (decimal sq_num) (codes ",\"simulation\":" ++ boolean_text p.simulation) (codes ",\"confRev\":" ++ decimal p.conf_rev)
    (codes ",\"ndsCom\":" ++ boolean_text p.nds_com) (codes ",\"members\":")

behind_five : (a l b s d t : List ℕ) → (a ++ (l ++ (b ++ (s ++ d)))) ++ t ≡ a ++ (l ++ (b ++ (s ++ (d ++ t))))
behind_five a l b s d t = simp append_assoc

-- the text of these three parts is kept of the object of a frame, and of the whole of it with what follows them where its members are settled
pub object_kept : {A : Type 0} (whole : Bool) (f : Frame A) (p : GoosePdu A) → f.apdu ≡ apdu.Goose p → whole ≡ are_settled p.members → (text : List ℕ) (first second : ℕ)
    → text ≡ (object_front f p ++ object_middle p) ++ (object_back p ++ object_tail whole f p) → first ≡ length (object_front f p) → second ≡ length (object_front f p ++ object_middle p)
    → KeepsLine true whole text first second f
object_kept false f p is settled text first second all low high = λ live sq_num.
    let back : object_back p ++ [] ≡ object_back p = append-nil (object_back p) in
    rw is (front_numbered f p live sq_num
    ∙ cut_parts text (object_front f p) (object_middle p) (object_back p) first second live sq_num (all ∙ ap (λ (l : List ℕ). (object_front f p ++ object_middle p) ++ l) back) low high)
object_kept true f p is settled text first second all low high =
    let tail = settled_array p.members ++ object_end f.trailer in (
      rw is (sym settled),
      λ live sq_num. rw is (ap (λ (l : List ℕ). l ++ tail) (front_numbered f p live sq_num)
          ∙ behind_five (object_front f p) (decimal live) (object_middle p) (decimal sq_num) (object_back p) tail
          ∙ cut_parts text (object_front f p) (object_middle p) (object_back p ++ tail) first second live sq_num all low high),
    )

-- the members and the trailer of the object of a frame, and its end
abbrev pub IsTail : {A : Type 0} → Frame A → GoosePdu A → List ℕ → Type 0
IsTail f p text = (members : List ℕ) × AreMembers p.members members × (text ≡ members ++ object_end f.trailer)

behind_two : (o e g m t : List ℕ) → (o ++ e) ++ ((g ++ m) ++ t) ≡ (o ++ (e ++ g)) ++ (m ++ t)
behind_two o e g m t = simp append_assoc

-- the object of a frame in three parts
object_parts : {A : Type 0} (counted : Counted) (n moment : ℕ) (f : Frame A) (p : GoosePdu A) → f.apdu ≡ apdu.Goose p → (tail : List ℕ) → IsTail f p tail
    → IsFrameObject counted n moment f ((opened (event_fields counted n moment (codes "goose")) ++ front_of f p) ++ tail)
object_parts counted n moment f p is tail (members, are, ends) =
    let end = object_end f.trailer in
    let envelope = next_fields (envelope_fields f) in
    let rest : IsRest f (next_fields (goose_fields p members) ++ end) = (goose_fields p members, rw is (members, are, refl), refl) in
    let named : next_fields (goose_fields p members) ≡ next_fields (goose_fields p []) ++ members = sym (last_piece (front_pieces p) name_pieces members) in
    subst (λ (t : List ℕ). IsFrameObject counted n moment f t) (
    ap (λ (k : List ℕ). (opened (event_fields counted n moment k) ++ envelope) ++ (next_fields (goose_fields p members) ++ end)) (ap apdu_kind is)
    ∙ ap (λ (l : List ℕ). (opened (event_fields counted n moment (codes "goose")) ++ envelope) ++ (l ++ end)) named
    ∙ behind_two (opened (event_fields counted n moment (codes "goose"))) envelope (next_fields (goose_fields p [])) members end
    ∙ ap (λ (l : List ℕ). (opened (event_fields counted n moment (codes "goose")) ++ front_of f p) ++ l) (sym ends)
    ) (frame_parts counted n moment f (next_fields (goose_fields p members) ++ end) rest)

-- the object of a frame of which what stands before its members is kept
pub kept_object : {A : Type 0} (counted : Counted) (n moment : ℕ) (f : Frame A) (p : GoosePdu A) → f.apdu ≡ apdu.Goose p → (text : List ℕ) (first second : ℕ)
    → KeepsLine true false text first second f → (tail : List ℕ) → IsTail f p tail
    → IsFrameObject counted n moment f ((opened (event_fields counted n moment (codes "goose")) ++ with_numbers text first second p.live p.sq_num) ++ tail)
kept_object counted n moment f p is text first second keeps tail ends =
    let kept : front_of f p ≡ with_numbers text first second p.live p.sq_num = rw is at (keeps p.live p.sq_num) in
    subst (λ (l : List ℕ). IsFrameObject counted n moment f ((opened (event_fields counted n moment (codes "goose")) ++ l) ++ tail)) kept (object_parts counted n moment f p is tail ends)

-- the object of a frame that is kept whole
goose_whole : {A : Type 0} (counted : Counted) (n moment : ℕ) (f : Frame A) (p : GoosePdu A) → f.apdu ≡ apdu.Goose p → (text : List ℕ) (first second : ℕ)
    → KeepsLine true true text first second f
    → IsFrameObject counted n moment f (opened (event_fields counted n moment (codes "goose")) ++ with_numbers text first second p.live p.sq_num)
goose_whole counted n moment f p is text first second (settled, keeps) =
    let head = opened (event_fields counted n moment (codes "goose")) in
    let tail = settled_array p.members ++ object_end f.trailer in
    let are : are_settled p.members ≡ true = rw is at settled in
    let kept : front_of f p ++ tail ≡ with_numbers text first second p.live p.sq_num = rw is at (keeps p.live p.sq_num) in
    subst (λ (l : List ℕ). IsFrameObject counted n moment f l) (append_assoc head (front_of f p) tail ∙ ap (λ (l : List ℕ). head ++ l) kept)
    (object_parts counted n moment f p is tail (settled_array p.members, settled_has p.members are, refl))

-- the same of a frame whose numbers are told
numbered_whole : (counted : Counted) (n moment : ℕ) (f : Frame (Unit {0})) (a : Apdu (Unit {0})) → f.apdu ≡ a → (live sq_num : ℕ) → IsNumbered live sq_num a → (text : List ℕ) (first second : ℕ)
    → KeepsLine true true text first second f
    → IsFrameObject counted n moment f (opened (event_fields counted n moment (codes "goose")) ++ with_numbers text first second live sq_num)
numbered_whole counted n moment f (apdu.Goose p) is live sq_num (has_live, has_sq_num) text first second keeps =
    subst (λ (l : List ℕ). IsFrameObject counted n moment f (opened (event_fields counted n moment (codes "goose")) ++ l)) (ap₂ (with_numbers text first second) has_live has_sq_num)
    (goose_whole counted n moment f p is text first second keeps)
numbered_whole counted n moment f (apdu.Sampled p) is live sq_num none text first second keeps = absurd none

whole_object : (counted : Counted) (n moment : ℕ) (f : Frame (Unit {0})) (live sq_num : ℕ) → IsNumbered live sq_num f.apdu → (text : List ℕ) (first second : ℕ)
    → KeepsLine true true text first second f
    → IsFrameObject counted n moment f (opened (event_fields counted n moment (codes "goose")) ++ with_numbers text first second live sq_num)
whole_object counted n moment f = numbered_whole counted n moment f f.apdu refl

-- a frame with two numbers, whatever numbers it had
pub renumbered : {A : Type 0} (f : Frame A) (live sq_num : ℕ) → frame_numbered live sq_num (unnumbered f) ≡ frame_numbered live sq_num f
renumbered f live sq_num =
    let same : apdu_numbered live sq_num (apdu_numbered 0 0 f.apdu) ≡ apdu_numbered live sq_num f.apdu = elim f.apdu as (λ a. apdu_numbered live sq_num (apdu_numbered 0 0 a) ≡ apdu_numbered live sq_num a) [ apdu.Goose p ↦ refl | apdu.Sampled p ↦ refl ] in
    ap (λ a. record { destination = f.destination; source = f.source; tag = f.tag; app_id = f.app_id; reserved1 = f.reserved1; reserved2 = f.reserved2; apdu = a; trailer = f.trailer }) same

-- and has the members that it had
members_numbered : {A : Type 0} (f : Frame A) (live sq_num : ℕ) → members_of (apdu_numbered live sq_num f.apdu) ≡ members_of f.apdu
members_numbered f live sq_num = elim f.apdu as (λ a. members_of (apdu_numbered live sq_num a) ≡ members_of a) [ apdu.Goose p ↦ refl | apdu.Sampled p ↦ refl ]

-- what is kept of a frame is kept of each that is the same but for its numbers
pub kept_unnumbered : {A : Type 0} (in_object whole : Bool) (text : List ℕ) (first second : ℕ) (f : Frame A) → KeepsLine in_object whole text first second f → KeepsLine in_object whole text first second (unnumbered f)
kept_unnumbered false whole text first second f keeps = λ n live sq_num. ap (frame_line n) (renumbered f live sq_num) ∙ keeps n live sq_num
kept_unnumbered true false text first second f keeps = λ live sq_num. ap before_members (renumbered f live sq_num) ∙ keeps live sq_num
kept_unnumbered true true text first second f keeps = (ap are_settled (members_numbered f 0 0) ∙ keeps.0, λ live sq_num. ap behind_head (renumbered f live sq_num) ∙ keeps.1 live sq_num)

pub kept_numbered : {A : Type 0} (in_object whole : Bool) (text : List ℕ) (first second : ℕ) (f : Frame A) → KeepsLine in_object whole text first second (unnumbered f) → KeepsLine in_object whole text first second f
kept_numbered false whole text first second f keeps = λ n live sq_num. ap (frame_line n) (sym (renumbered f live sq_num)) ∙ keeps n live sq_num
kept_numbered true false text first second f keeps = λ live sq_num. ap before_members (sym (renumbered f live sq_num)) ∙ keeps live sq_num
kept_numbered true true text first second f keeps = (sym (ap are_settled (members_numbered f 0 0)) ∙ keeps.0, λ live sq_num. ap behind_head (sym (renumbered f live sq_num)) ∙ keeps.1 live sq_num)

-- what is written of octets that spell a frame that is kept whole
pub whole_answer : (counted : Counted) (n moment : ℕ) (octets : List ℕ) (f : Frame (Unit {0})) → frame_at octets ≡ Ok f → (live sq_num : ℕ) → IsNumbered live sq_num f.apdu
    → (in_object whole : Bool) (text : List ℕ) (first second : ℕ) → KeepsLine in_object whole text first second (unnumbered f) → in_object ≡ true → whole ≡ true
    → IsAnswerObject {A = Unit {0}} counted n moment (frame_at octets) (opened (event_fields counted n moment (codes "goose")) ++ with_numbers text first second live sq_num)
whole_answer counted n moment octets f read live sq_num numbered in_object whole text first second keeps is_object is_whole =
    let of_object : KeepsLine true whole text first second (unnumbered f) = subst (λ (b : Bool). KeepsLine b whole text first second (unnumbered f)) is_object keeps in
    let of_whole : KeepsLine true true text first second (unnumbered f) = subst (λ (b : Bool). KeepsLine true b text first second (unnumbered f)) is_whole of_object in
    rw read (whole_object counted n moment f live sq_num numbered text first second (kept_numbered true true text first second f of_whole))
