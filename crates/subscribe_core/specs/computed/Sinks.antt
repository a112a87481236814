-- The entry of an action as a sink is handed it, and a list as such a sink.
use Rattle.std.proofs.Common.{◌≡◌, ◌<◌, ◌≤◌, ◌++◌, ℕ, List, [], ap, append-nil, append_assoc, arith, length, sym, ◌∙◌}
use Rattle.pdu_core.specs.declared.goose.GoosePdu.{GoosePdu}
use Rattle.subscribe_core.specs.declared.entry.Entry.{Entry}
use Rattle.subscribe_core.specs.declared.entry.Entry.TheVariants as says
use Rattle.subscribe_core.specs.declared.entry.PlainEntry.{PlainEntry}
use Rattle.subscribe_core.specs.declared.entry.PlainEntry.TheVariants as plain

-- an entry without members as one of all
abbrev pub whole_entry : {A : Type 0} → PlainEntry → Entry A
whole_entry (plain.Expired b) = says.Expired b
whole_entry (plain.Switched b) = says.Switched b
whole_entry (plain.Refreshed b state sequence) = says.Refreshed b state sequence
whole_entry (plain.Repeated b state sequence) = says.Repeated b state sequence
whole_entry (plain.Older b state sequence) = says.Older b state sequence
whole_entry (plain.Refused b reason) = says.Refused b reason
whole_entry plain.NotSubscribed = says.NotSubscribed
whole_entry plain.Sampled = says.Sampled
whole_entry (plain.Faulty fault) = says.Faulty fault

-- the action on a frame of the block at a position
abbrev pub act_of : {A : Type 0} → ℕ → GoosePdu (Unit {0}) → Entry A
act_of b p = says.Act b p.st_num p.sq_num p.t p.members

pub append_none : {A : Type 0} (a : List A) → a ≡ a ++ []
append_none a = sym (append-nil a)

pub append_twice : {A : Type 0} (a b c x y : List A) → b ≡ a ++ x → c ≡ b ++ y → c ≡ a ++ (x ++ y)
append_twice a b c x y first second = second ∙ (ap (λ (l : List _). l ++ y) first ∙ append_assoc a x y)

pub same_room : {A : Type 0} (a b : List A) (n m : ℕ) → b ≡ a ++ [] → n ≤ m → length a < n → length b < m
same_room a b n m none grown room =
    let long = ap length (none ∙ append-nil a) in
    omega (arith, long, grown, room)

pub no_more : (n : ℕ) → n ≤ n
no_more n = omega arith

pub ever_more : (a b c : ℕ) → a ≤ b → b ≤ c → a ≤ c
ever_more a b c first second = omega arith
