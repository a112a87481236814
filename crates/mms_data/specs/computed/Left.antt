-- The values that stand in octets known to spell members.
use Rattle.std.specs.Prelude.{◌≡◌, ℕ, Bool, true, false, List, [], Result, Ok, Err}
use Rattle.ber_core.specs.declared.fault.Fault.{Fault}
use Rattle.mms_data.specs.Data.{Data}
use Rattle.mms_data.specs.computed.Reading.{members_at}

-- what is read, with less said of it
abbrev pub less : {A B : Type 0} → (A → B) → Result A Fault → Result B Fault
less f (Ok x) = Ok (f x)
less f (Err e) = Err e

abbrev pub data_or_none : Result (List Data) Fault → List Data
data_or_none (Ok ds) = ds
data_or_none (Err f) = []

abbrev pub was_read : Result (List Data) Fault → Bool
was_read (Ok ds) = true
was_read (Err f) = false

-- the members that stand in these octets, where depth is how many levels may stand from here on
unfoldable pub data_in : ℕ → List ℕ → List Data
data_in depth o = data_or_none (members_at depth 0 o)

-- the octets spell members
abbrev pub AreMembers : ℕ → List ℕ → Type 0
AreMembers depth o = was_read (members_at depth 0 o) ≡ true
