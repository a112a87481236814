-- Parts of a capture that are read one behind another.
use Rattle.std.proofs.Common.{◌≡◌, ℕ, ◌+◌, ◌≤◌, List, ◌++◌, length, Option, Result, Ok, Err, ◌∙◌, arith}
use Rattle.std.proofs.lemmas.List.{length-append}
use Rattle.std.specs.Io.KnownBytes.{Consumes}
use Rattle.list_core.specs.declared.device.InputEnd.{InputEnd}
use Rattle.list_core.specs.Device.{OnlyOpen}
use Rattle.list_core.proofs.Devices.{Consumes-append, Gives-append}
use Rattle.list_core.proofs.Readers.{OnlyOpen-append}
use Rattle.capture_core.specs.declared.filling.Short.{Short}
use Rattle.capture_core.specs.declared.filling.Unread.{Unread}
use Rattle.capture_core.specs.declared.filling.Unread.TheVariants as unread
use Rattle.capture_core.specs.computed.Filling.{IsShort, IsWanted, IsWhole, ReadsKept, ReadsPart}

-- a part was read, and the source ended within the next one
pub short_behind : (part : List ℕ) (old mid new : Option (List ℕ)) (z m w : InputEnd) (k size : ℕ) → length part + k ≤ size → Consumes old mid part → OnlyOpen z part m → IsShort k mid m new w → IsShort size old z new w
short_behind part old mid new z m w k size h took o (given, few, gave, p, shut) =
    (part ++ given, simp length-append (omega (arith, few, h)), Gives-append old mid new part given took gave, OnlyOpen-append z m w part given o p, shut)

-- a part was read, and memory was wanted within the next one
pub wanted_behind : (Wants Both : List ℕ → Type 0) (part : List ℕ) (old mid new : Option (List ℕ)) (z m w : InputEnd) (k size : ℕ) → length part + k ≤ size → Consumes old mid part → OnlyOpen z part m → m ≡ z →
    ((given : List ℕ) → Wants given → Both (part ++ given)) → IsWanted Wants k mid m new w → IsWanted Both size old z new w
wanted_behind Wants Both part old mid new z m w k size h took o same f (given, few, gave, p, still, is) =
    (part ++ given, simp length-append (omega (arith, few, h)), Gives-append old mid new part given took gave, OnlyOpen-append z m w part given o p, still ∙ same, f given is)

-- a part was read, and the next one
pub whole_behind : (Is Both : List ℕ → Type 0) (part : List ℕ) (old mid new : Option (List ℕ)) (z m w : InputEnd) (k size : ℕ) → length part + k ≡ size → Consumes old mid part → OnlyOpen z part m → m ≡ z →
    ((given : List ℕ) → length given ≡ k → Is given → Both (part ++ given)) → IsWhole Is k mid m new w → IsWhole Both size old z new w
whole_behind Is Both part old mid new z m w k size h took o same f (given, all, gave, p, still, is) =
    (part ++ given, simp length-append (omega (arith, all, h)), Consumes-append old mid new part given took gave, OnlyOpen-append z m w part given o p, still ∙ same, f given all is)

-- a part was read, and the next one or less of it
pub part_behind : {T : Type 0} (Is Both : T → List ℕ → Type 0) (part : List ℕ) (old mid new : Option (List ℕ)) (z m w : InputEnd) (k size : ℕ) → length part + k ≡ size → Consumes old mid part → OnlyOpen z part m → m ≡ z →
    (r : Result T Short) → ((t : T) (given : List ℕ) → length given ≡ k → Is t given → Both t (part ++ given)) → ReadsPart Is k mid m r new w → ReadsPart Both size old z r new w
part_behind Is Both part old mid new z m w k size h took o same (Ok t) f r = whole_behind (Is t) (Both t) part old mid new z m w k size h took o same (f t) r
part_behind Is Both part old mid new z m w k size h took o same (Err e) f r = short_behind part old mid new z m w k size (omega (arith, h)) took o r

-- a part was read, and not the next one, for either reason
pub unread_behind : {T S : Type 0} (Is : T → List ℕ → Type 0) (Both : S → List ℕ → Type 0) (Wants WantsBoth : List ℕ → Type 0) (part : List ℕ) (old mid new : Option (List ℕ)) (z m w : InputEnd) (k size : ℕ) (u : Unread) → length part + k ≤ size →
    Consumes old mid part → OnlyOpen z part m → m ≡ z → ((given : List ℕ) → Wants given → WantsBoth (part ++ given)) → ReadsKept Is Wants k mid m (Err u) new w → ReadsKept Both WantsBoth size old z (Err u) new w
unread_behind Is Both Wants WantsBoth part old mid new z m w k size unread.Short h took o same f r = short_behind part old mid new z m w k size h took o r
unread_behind Is Both Wants WantsBoth part old mid new z m w k size (unread.Memory e) h took o same f r = wanted_behind Wants WantsBoth part old mid new z m w k size h took o same f r
