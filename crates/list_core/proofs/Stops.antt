-- What the stop of a list says of the ending of its source.
use Rattle.std.proofs.Common.{Option, Some, None, Ok, Err, Result, true, false, cond, ltb, leb, ◌≡◌, ℕ, ◌+◌, List, [], ◌∷◌, length, refl}
use Rattle.list_core.specs.declared.device.InputEnd.{InputEnd}
use Rattle.list_core.specs.declared.device.InputEnd.TheVariants.{Open, End, Failed}
use Rattle.list_core.specs.declared.list_fault.ListCause.TheVariants.{LineTooLong, ListTooLong, ReadFailed}
use Rattle.list_core.specs.declared.list_fault.ListFault.{ListFault}
use Rattle.list_core.specs.Lines.{LineListing, Stop, finished, unfinished, faulty, fault_at, put_line, pieces, line_judged, reading_at_end, reading_of_pieces, reading, without_cr}
use Rattle.list_core.specs.declared.line_rules.ItemFault.{ItemFault}
use Rattle.list_core.specs.declared.line_rules.ItemFault.TheVariants as fault
use Rattle.list_core.specs.Items.{Rules, Listing, close, missing, put_said, items_said, listing}

-- a stop that only a source that ended can make, or only one that failed
pub Means : Stop ListFault → InputEnd → Type 0
Means finished z = z ≡ End
Means unfinished z = Unit {0}
Means (faulty f) z = f.cause ≡ ReadFailed → z ≡ Failed

-- the same of what the lines say
abbrev pub ItemsMean : {C : Type 0} → Stop (ItemFault C) → InputEnd → Type 0
ItemsMean finished z = z ≡ End
ItemsMean unfinished z = Unit {0}
ItemsMean (faulty (fault.Lines f)) z = f.cause ≡ ReadFailed → z ≡ Failed
ItemsMean (faulty (fault.Line n why)) z = Unit {0}

at_end : (z : InputEnd) (n : ℕ) (rest : List ℕ) → Means (reading_at_end z n rest).stop z
unfolding Means
at_end End n [] = refl
at_end End n (x ∷ xs) = refl
at_end Open n rest = tt
at_end Failed n rest = λ h. refl

judged-means : (z : InputEnd) (n : ℕ) (line : List ℕ) (r : LineListing) → Means r.stop z → Means (line_judged n line r).stop z
unfolding Means
judged-means z n line r h = elim (leb 1000000 n) as (λ many. Means (cond many (fault_at n ListTooLong) (cond (ltb 4096 (length line)) (fault_at n LineTooLong) r)).stop z) [
  | true ↦ λ e. cc
  | false ↦ elim (ltb 4096 (length line)) as (λ long. Means (cond long (fault_at n LineTooLong) r).stop z) [ true ↦ (λ e. cc) | false ↦ h ]
]

pieces-mean : (z : InputEnd) (n : ℕ) (ps : List (List ℕ)) → Means (reading_of_pieces z n ps).stop z
pieces-mean z n [] = at_end z n []
pieces-mean z n ([] ∷ []) = at_end z n []
pieces-mean z n ((x ∷ xs) ∷ []) = judged-means z n (x ∷ xs) (reading_at_end z n (x ∷ xs)) (at_end z n (x ∷ xs))
pieces-mean z n (line ∷ next ∷ more) =
    judged-means z n line (put_line (without_cr line) (reading_of_pieces z (n + 1) (next ∷ more))) (pieces-mean z (n + 1) (next ∷ more))

reading-means : (z : InputEnd) (n : ℕ) (text : List ℕ) → Means (reading z n text).stop z
unfolding reading
reading-means z n text = pieces-mean z n (pieces text)

close-means : {S X C : Type 0} (r : Rules S X C) (s : S) (n : ℕ) (z : InputEnd) (stop : Stop ListFault) → Means stop z → ItemsMean (close r s n stop) z
unfolding Means
close-means r s n z finished h = missing-means n z (r.lacks s) h
  where
    missing-means : {C : Type 0} (n : ℕ) (z : InputEnd) (o : Option C) → z ≡ End → ItemsMean (missing n o) z
    missing-means n z None h = h
    missing-means n z (Some why) h = tt
close-means r s n z unfinished h = tt
close-means r s n z (faulty f) h = h

said-means : {S X C : Type 0} (z : InputEnd) (n : ℕ) (said : Result (Option X × S) C) (rest : S → Listing X C) → ((s : S) → ItemsMean (rest s).stop z) → ItemsMean (put_said n said rest).stop z
said-means z n (Ok (None, s)) rest h = h s
said-means z n (Ok (Some x, s)) rest h = h s
said-means z n (Err why) rest h = tt

items-mean : {S X C : Type 0} (r : Rules S X C) (s : S) (z : InputEnd) (n : ℕ) (ls : List (List ℕ)) (stop : Stop ListFault) → Means stop z → ItemsMean (items_said r s n ls stop).stop z
unfolding items_said
items-mean r s z n [] stop h = close-means r s n z stop h
items-mean r s z n (l ∷ ls) stop h = said-means z n (r.said s l) (λ t. items_said r t (n + 1) ls stop) (λ t. items-mean r t z (n + 1) ls stop h)

pub listing-means : {S X C : Type 0} (r : Rules S X C) (s : S) (z : InputEnd) (n : ℕ) (text : List ℕ) → ItemsMean (listing r s z n text).stop z
listing-means r s z n text = items-mean r s z n (reading z n text).lines (reading z n text).stop (reading-means z n text)

pub finished-ended : {S X C : Type 0} (r : Rules S X C) (s : S) (z : InputEnd) (n : ℕ) (text : List ℕ) → (listing r s z n text).stop ≡ finished → z ≡ End
finished-ended r s z n text h = rw h at (listing-means r s z n text)

pub read_failed-failed : {S X C : Type 0} (r : Rules S X C) (s : S) (z : InputEnd) (n : ℕ) (text : List ℕ) (f : ListFault) → (listing r s z n text).stop ≡ faulty (fault.Lines f) → f.cause ≡ ReadFailed → z ≡ Failed
read_failed-failed r s z n text f h = rw h at (listing-means r s z n text)
