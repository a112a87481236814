-- What switches no block, and the mode set off.
use Rattle.std.proofs.Common.{◌≡◌, ℕ, ◌+◌, Bool, true, false, if◌then◌else◌, List, [], ◌∷◌, ◌++◌, length, sym, ap, ap₂, ◌∙◌, arith, refl}
use Rattle.ber_core.specs.declared.fault.Fault.{Fault}
use Rattle.block_core.specs.declared.block.Block.{Block}
use Rattle.subscribe_core.specs.declared.entry.Entry.{Entry}
use Rattle.subscribe_core.specs.declared.entry.Entry.TheVariants as says
use Rattle.subscribe_core.specs.declared.registers.Register.{Register}
use Rattle.subscribe_core.specs.computed.Indexed.{registers_after_clock, register_after_clock, flagged_entries, switched_off, switched_off_one}
use Rattle.subscribe_core.specs.EventsRead.{Content, OfClock, OfFault, OfMode, OfSampled}
use Rattle.subscribe_core.specs.computed.Steps.{register_by, registers_by, said_of, switch_by, switched_entries}

-- what switches no block

pub switched_still : {A : Type 0} (mode : Bool) (k : Content) (b : ℕ) (xs : List (Block A)) (rs : List Register)
    → ((x : Block A) (flag : Bool) → switch_by x mode flag k ≡ false) → switched_entries mode k b xs rs ≡ []
switched_still mode k b [] rs still = refl
switched_still mode k b (x ∷ xs) [] still = refl
switched_still mode k b (x ∷ xs) (r ∷ rs) still =
    ap (λ (y : Bool). if y then says.Switched b ∷ switched_entries mode k (b + 1) xs rs else switched_entries mode k (b + 1) xs rs) (still x r.takes_simulated)
    ∙ switched_still mode k (b + 1) xs rs still

pub registers_still : {A : Type 0} (now : ℕ) (mode : Bool) (k : Content) (xs : List (Block A)) (rs : List Register) → length rs ≡ length xs
    → ((x : Block A) (r : Register) → register_by now mode k x r ≡ register_after_clock now r) → registers_by now mode k xs rs ≡ registers_after_clock now rs
registers_still now mode k [] [] same still = refl
registers_still now mode k [] (r ∷ rs) same still = absurd (omega arith)
registers_still now mode k (x ∷ xs) [] same still = refl
registers_still now mode k (x ∷ xs) (r ∷ rs) same still =
    ap₂ (λ (y : Register) (ys : List Register). y ∷ ys) (still x r) (registers_still now mode k xs rs (omega arith) still)

-- the mode set off

pub switched_off_entries : {A : Type 0} (mode : Bool) (b : ℕ) (xs : List (Block A)) (rs : List Register) → length rs ≡ length xs → switched_entries mode (OfMode false) b xs rs ≡ flagged_entries b rs
switched_off_entries mode b [] [] same = refl
switched_off_entries mode b [] (r ∷ rs) same = absurd (omega arith)
switched_off_entries mode b (x ∷ xs) [] same = refl
switched_off_entries {A} mode b (x ∷ xs) (r ∷ rs) same =
    ap (λ (l : List (Entry A)). if r.takes_simulated then says.Switched b ∷ l else l) (switched_off_entries mode (b + 1) xs rs (omega arith))

off_one : {A : Type 0} (now : ℕ) (mode : Bool) (x : Block A) (r : Register) (flag : Bool) → r.takes_simulated ≡ flag → register_by now mode (OfMode false) x r ≡ register_after_clock now (switched_off_one r)
off_one now mode x r flag e = go flag e
  where
    go : (y : Bool) → r.takes_simulated ≡ y → register_by now mode (OfMode false) x r ≡ register_after_clock now (switched_off_one r)
    go true e = rw e refl
    go false e = rw e refl

pub registers_off : {A : Type 0} (now : ℕ) (mode : Bool) (xs : List (Block A)) (rs : List Register) → length rs ≡ length xs → registers_by now mode (OfMode false) xs rs ≡ registers_after_clock now (switched_off rs)
registers_off now mode [] [] same = refl
registers_off now mode [] (r ∷ rs) same = absurd (omega arith)
registers_off now mode (x ∷ xs) [] same = refl
registers_off now mode (x ∷ xs) (r ∷ rs) same =
    ap₂ (λ (y : Register) (ys : List Register). y ∷ ys) (off_one now mode x r r.takes_simulated refl) (registers_off now mode xs rs (omega arith))

-- a change of the content that is read
pub answer_as : {A : Type 0} (now : ℕ) (mode : Bool) (xs : List (Block A)) (rs : List Register) (k c : Content) (es : List (Entry A)) → c ≡ k
    → es ≡ switched_entries mode k 0 xs rs ++ said_of now mode xs rs k → es ≡ switched_entries mode c 0 xs rs ++ said_of now mode xs rs c
answer_as now mode xs rs k c es e is = is ∙ ap (λ (y : Content). switched_entries mode y 0 xs rs ++ said_of now mode xs rs y) (sym e)

-- octets that spell no frame, and Sampled Values

pub answer_fault : {A : Type 0} (now : ℕ) (mode : Bool) (xs : List (Block A)) (rs : List Register) (fault : Fault)
    → says.Faulty fault ∷ [] ≡ switched_entries mode (OfFault fault) 0 xs rs ++ said_of now mode xs rs (OfFault fault)
answer_fault {A} now mode xs rs fault = sym (ap (λ (l : List (Entry A)). l ++ says.Faulty fault ∷ []) (switched_still mode (OfFault fault) 0 xs rs (λ x flag. refl)))

pub answer_sampled : {A : Type 0} (now : ℕ) (mode : Bool) (xs : List (Block A)) (rs : List Register)
    → says.Sampled ∷ [] ≡ switched_entries mode OfSampled 0 xs rs ++ said_of now mode xs rs OfSampled
answer_sampled {A} now mode xs rs = sym (ap (λ (l : List (Entry A)). l ++ says.Sampled ∷ []) (switched_still mode OfSampled 0 xs rs (λ x flag. refl)))

pub registers_fault : {A : Type 0} (now : ℕ) (mode : Bool) (xs : List (Block A)) (rs : List Register) (fault : Fault) → length rs ≡ length xs → registers_after_clock now rs ≡ registers_by now mode (OfFault fault) xs rs
registers_fault now mode xs rs fault same = sym (registers_still now mode (OfFault fault) xs rs same (λ x r. refl))

pub registers_sampled : {A : Type 0} (now : ℕ) (mode : Bool) (xs : List (Block A)) (rs : List Register) → length rs ≡ length xs → registers_after_clock now rs ≡ registers_by now mode OfSampled xs rs
registers_sampled now mode xs rs same = sym (registers_still now mode OfSampled xs rs same (λ x r. refl))

pub registers_clock : {A : Type 0} (now : ℕ) (mode : Bool) (xs : List (Block A)) (rs : List Register) → length rs ≡ length xs → registers_after_clock now rs ≡ registers_by now mode OfClock xs rs
registers_clock now mode xs rs same = sym (registers_still now mode OfClock xs rs same (λ x r. refl))

pub registers_on : {A : Type 0} (now : ℕ) (mode : Bool) (xs : List (Block A)) (rs : List Register) → length rs ≡ length xs → registers_after_clock now rs ≡ registers_by now mode (OfMode true) xs rs
registers_on now mode xs rs same = sym (registers_still now mode (OfMode true) xs rs same (λ x r. refl))

pub switched_clock : {A : Type 0} (mode : Bool) (xs : List (Block A)) (rs : List Register) → switched_entries mode OfClock 0 xs rs ≡ []
switched_clock mode xs rs = switched_still mode OfClock 0 xs rs (λ x flag. refl)

pub switched_on : {A : Type 0} (mode : Bool) (xs : List (Block A)) (rs : List Register) → switched_entries mode (OfMode true) 0 xs rs ≡ []
switched_on mode xs rs = switched_still mode (OfMode true) 0 xs rs (λ x flag. refl)
