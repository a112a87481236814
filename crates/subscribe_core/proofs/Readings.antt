-- Each event is read as one content.
use Rattle.std.proofs.Common.{◌≡◌, ℕ, suc, List, [], ◌∷◌, ◌++◌, length, map, Result, Ok, Err, sym, refl, ap, ap₂, ◌∙◌}
use Rattle.ber_core.specs.declared.fault.Fault.{Fault}
use Rattle.frame_core.specs.computed.FrameReading.{frame_at}
use Rattle.frame_core.specs.declared.frame.Frame.{Frame}
use Rattle.frame_core.specs.declared.frame.Apdu.{Apdu}
use Rattle.frame_core.specs.declared.frame.Apdu.TheVariants as apdus
use Rattle.list_core.specs.declared.event.Event.{Event}
use Rattle.list_core.specs.declared.event.EventKind.{EventKind}
use Rattle.list_core.specs.declared.event.EventKind.TheVariants as kinds
use Rattle.frame_core.proofs.ReadingLaws.{frame_again, frame_read_found, frame_read_wrong, frame_wrong_again}
use Rattle.subscribe_core.specs.EventsRead.{Content, OfGoose, OfSampled, OfFault, OfClock, OfMode, EventRead, IsContent, IsRead, AreRead}
use Rattle.subscribe_core.specs.computed.Content.{content_with, content_by, content_of, reading_of}

-- the function reads what is there

spelled_content : (A : Type 0) (o : List ℕ) (f : Frame (Unit {0})) (a : Apdu (Unit {0})) → frame_at o ≡ Ok f → f.apdu ≡ a → IsContent {A = A} (kinds.Frame o) (content_with f.app_id a)
spelled_content A o f (apdus.Goose p) is same = (f, frame_read_found o f is, refl, same)
spelled_content A o f (apdus.Sampled p) is same = (f, p, frame_read_found o f is, same)

octets_content : (A : Type 0) (o : List ℕ) (r : Result (Frame (Unit {0})) Fault) → frame_at o ≡ r → IsContent {A = A} (kinds.Frame o) (content_by r)
octets_content A o (Ok f) is = spelled_content A o f f.apdu is refl
octets_content A o (Err e) is = frame_read_wrong o e is

pub kind_content : {A : Type 0} (k : EventKind A) → IsContent k (content_of k)
kind_content {A} (kinds.Frame o) = octets_content A o (frame_at o) refl
kind_content kinds.Clock = tt
kind_content (kinds.Mode on) = refl

pub is_read : {A : Type 0} (e : Event A) → IsRead e (reading_of e)
is_read e = record { moment = refl; content = kind_content e.kind }

pub all_read : {A : Type 0} (es : List (Event A)) → AreRead es (map reading_of es)
all_read [] = tt
all_read (e ∷ es) = (is_read e, all_read es)

-- and nothing else is

content_one : {A : Type 0} (k : EventKind A) (c : Content) → IsContent k c → c ≡ content_of k
content_one (kinds.Frame o) (OfGoose g) w =
    let read = frame_again o w.0 w.1 in
    sym (ap content_by read ∙ (ap (content_with w.0.app_id) w.3 ∙ ap (λ (n : ℕ). content_with n (apdus.Goose g.pdu)) w.2))
content_one (kinds.Frame o) OfSampled w =
    let read = frame_again o w.0 w.2 in
    sym (ap content_by read ∙ ap (content_with w.0.app_id) w.3)
content_one (kinds.Frame o) (OfFault e) w = sym (ap content_by (frame_wrong_again o e w))
content_one (kinds.Frame o) OfClock w = absurd w
content_one (kinds.Frame o) (OfMode on) w = absurd w
content_one kinds.Clock (OfGoose g) w = absurd w
content_one kinds.Clock OfSampled w = absurd w
content_one kinds.Clock (OfFault e) w = absurd w
content_one kinds.Clock OfClock w = refl
content_one kinds.Clock (OfMode on) w = absurd w
content_one (kinds.Mode set) (OfGoose g) w = absurd w
content_one (kinds.Mode set) OfSampled w = absurd w
content_one (kinds.Mode set) (OfFault e) w = absurd w
content_one (kinds.Mode set) OfClock w = absurd w
content_one (kinds.Mode set) (OfMode on) w = ap OfMode w

pub read_one : {A : Type 0} (e : Event A) (r : EventRead) → IsRead e r → r ≡ reading_of e
read_one e r w = ap₂ (λ (m : ℕ) (c : Content). record { moment = m; content = c }) w.moment (content_one e.kind r.content w.content)

pub reads_one : {A : Type 0} (es : List (Event A)) (rs : List EventRead) → AreRead es rs → rs ≡ map reading_of es
reads_one [] [] w = refl
reads_one [] (r ∷ rs) w = absurd w
reads_one (e ∷ es) [] w = absurd w
reads_one (e ∷ es) (r ∷ rs) w = ap₂ (λ (x : EventRead) (xs : List EventRead). x ∷ xs) (read_one e r w.0) (reads_one es rs w.1)

-- lists of readings

pub read_append : {A : Type 0} (es more : List (Event A)) (rs others : List EventRead) → AreRead es rs → AreRead more others → AreRead (es ++ more) (rs ++ others)
read_append [] more [] others a b = b
read_append [] more (r ∷ rs) others a b = absurd a
read_append (e ∷ es) more [] others a b = absurd a
read_append (e ∷ es) more (r ∷ rs) others a b = (a.0, read_append es more rs others a.1 b)

pub read_length : {A : Type 0} (es : List (Event A)) (rs : List EventRead) → AreRead es rs → length rs ≡ length es
read_length [] [] a = refl
read_length [] (r ∷ rs) a = absurd a
read_length (e ∷ es) [] a = absurd a
read_length (e ∷ es) (r ∷ rs) a = ap suc (read_length es rs a.1)
