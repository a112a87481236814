-- What a call of a source or a sink leaves.
use Rattle.std.specs.Prelude.{◌≡◌, ℕ, List, [], ◌++◌, ◌⊎◌, length, Option, Some, None, Result, Ok, Err, ⊤}
use Rattle.std.specs.Io.KnownBytes.{Consumes}
use Rattle.std.proofs.Common.{zero, suc}
use Rattle.list_core.specs.declared.device.InputEnd.{InputEnd}
use Rattle.list_core.specs.declared.device.InputEnd.TheVariants.{Open, End, Failed}

-- what a read tells of what can come after it: the end where it gave no octet, an open end where it gave some, a
-- failure where it failed
abbrev pub ending_after : {E : Type 0} → Result ℕ E → InputEnd
ending_after (Ok zero) = End
ending_after (Ok (suc n)) = Open
ending_after (Err e) = Failed

-- what was told stays, or is no longer told
abbrev pub KeepsOrForgets : Option (List ℕ) → Option (List ℕ) → Type 0
KeepsOrForgets None new = ⊤
KeepsOrForgets (Some xs) None = ⊤
KeepsOrForgets (Some xs) (Some ys) = ys ≡ xs

-- What a source tells it has left, before and after: these octets were given, from the front of what was left, and the
-- others are left, or no longer told. Where nothing was told before, nothing is said.
abbrev pub GivesOctets : Option (List ℕ) → Option (List ℕ) → List ℕ → Type 0
GivesOctets None new bs = ⊤
GivesOctets (Some xs) None bs = (ys : List ℕ) × (xs ≡ bs ++ ys)
GivesOctets (Some xs) (Some ys) bs = xs ≡ bs ++ ys

-- these octets come first of those that are left, where those are told
abbrev pub IsFront : Option (List ℕ) → List ℕ → Type 0
IsFront None bs = ⊤
IsFront (Some xs) bs = (ys : List ℕ) × (xs ≡ bs ++ ys)

-- so many octets were given, from the front of what was left
abbrev pub ConsumesSome : Option (List ℕ) → Option (List ℕ) → ℕ → Type 0
ConsumesSome old new count = (bs : List ℕ) × (length bs ≡ count) × Consumes old new bs

-- a prefix of these octets was appended, or what is held is no longer told
abbrev pub AppendsPrefix : Option (List ℕ) → Option (List ℕ) → List ℕ → Type 0
AppendsPrefix None new bs = ⊤
AppendsPrefix (Some xs) None bs = ⊤
AppendsPrefix (Some xs) (Some ys) bs = (prefix : List ℕ) × (rest : List ℕ) × (bs ≡ prefix ++ rest) × (ys ≡ xs ++ prefix)

-- octets are given by an open source alone
abbrev pub OnlyOpen : InputEnd → List ℕ → InputEnd → Type 0
OnlyOpen old given new = (old ≡ Open) ⊎ ((given ≡ []) × (new ≡ old))
