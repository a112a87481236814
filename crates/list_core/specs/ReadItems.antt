-- What a reader of items answers, of whatever input.
use Rattle.std.specs.Prelude.{◌≡◌, ℕ, Bool, true, false, List, [], ◌∷◌, Option, Some, None, Result, Ok, Err}
use Rattle.list_core.specs.declared.list_fault.ListCause.{ListCause}
use Rattle.list_core.specs.declared.list_fault.ListCause.TheVariants.{LineTooLong, LineForm, Moment, Hex, ListTooLong, ReadFailed}
use Rattle.list_core.specs.declared.line_rules.ItemFault.{ItemFault}
use Rattle.list_core.specs.declared.line_rules.ItemFault.TheVariants as fault
use Rattle.list_core.specs.declared.read_error.ReadError.{ReadError}
use Rattle.list_core.specs.declared.read_error.ReadError.TheVariants as error

-- an answer of a reader: an item with its number, the end, a fault, or want of memory
abbrev pub AnswerOf : Type 0 → Type 0 → Type 0
AnswerOf X F = Result (Option (ℕ × X)) (Option F)

-- an answer, its item with this number
abbrev pub told_as : {X F : Type 0} → ℕ → Result (Option X) (ReadError F) → AnswerOf X F
told_as n (Ok None) = Ok None
told_as n (Ok (Some x)) = Ok (Some (n, x))
told_as n (Err (error.Fault f)) = Err (Some f)
told_as n (Err (error.Memory e)) = Err None

-- whether a list stops by this cause since its source failed
abbrev pub is_of_source : ListCause → Bool
is_of_source ReadFailed = true
is_of_source LineTooLong = false
is_of_source LineForm = false
is_of_source Moment = false
is_of_source Hex = false
is_of_source ListTooLong = false

-- whether a list gives no further item since its source failed; what a line says is never the source's fault
abbrev pub is_failed_read : {C : Type 0} → ItemFault C → Bool
is_failed_read (fault.Lines f) = is_of_source f.cause
is_failed_read (fault.Line n why) = false

-- a reader gave these items one after another, and stands so then
unfoldable pub Gave : {I X F : Type 0} → (I → AnswerOf X F → I → Type 0) → I → List (ℕ × X) → I → Type 0
Gave answers a [] b = a ≡ b
Gave {I = I} answers a (e ∷ es) b = (next : I) × answers a (Ok (Some e)) next × Gave answers next es b
