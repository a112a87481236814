-- Where the slices of a view stand.
use Rattle.std.specs.Prelude.{◌≡◌, ℕ, ◌+◌, ◌-◌, ◌≤◌, List, length, slice_range, Option, IfSome}
use Rattle.std.specs.Borrow.{Bor}
use Rattle.std.specs.Iterator.{YieldsFirstBy}
use Rattle.mms_data.specs.Meaning.{left, meaning}
use Rattle.mms_data.specs.declared.view.Members.{Members}
use Rattle.mms_data.specs.declared.view.View.{View}
use Rattle.mms_data.specs.declared.view.View.TheVariants as variants

-- the slice is some of the source's octets, in the source's own memory
pub record IsPart (s source : Bor (List ℕ)) : Type 0 where
  pub from : ℕ
  pub to : ℕ
  pub order : from ≤ to
  pub within : to ≤ length source.now
  pub block : s.ref_ptr.0 ≡ source.ref_ptr.0
  pub place : s.ref_ptr.1 ≡ from + source.ref_ptr.1
  pub octets : s.now ≡ slice_range source.now from to

-- the octets that members are read from
abbrev pub source_of : Members → Bor (List ℕ)
source_of m = m.octets

-- the level at which the members stand
abbrev pub level_of : Members → ℕ
level_of m = 17 - m.depth

-- whatever octets the view hands out are a part of the source
abbrev pub ViewIsPart : View → Bor (List ℕ) → Type 0
ViewIsPart (variants.Array m) source = IsPart (source_of m) source
ViewIsPart (variants.Structure m) source = IsPart (source_of m) source
ViewIsPart (variants.Boolean b) source = Unit {0}
ViewIsPart (variants.Bits b) source = IsPart b.octets source
ViewIsPart (variants.Integer n) source = Unit {0}
ViewIsPart (variants.Unsigned n) source = Unit {0}
ViewIsPart (variants.Floating o) source = IsPart o source
ViewIsPart (variants.Octets o) source = IsPart o source
ViewIsPart (variants.Visible o) source = IsPart o source
ViewIsPart (variants.BinaryTime o) source = IsPart o source
ViewIsPart (variants.MmsText o) source = IsPart o source
ViewIsPart (variants.Utc t) source = Unit {0}

-- a call of next gave the first member that was left, in place
abbrev pub GivesView : Members → Option View → Members → Type 0
GivesView s r t = YieldsFirstBy meaning left s r t × IfSome r (λ v. ViewIsPart v (source_of s) × IsPart (source_of t) (source_of s))
