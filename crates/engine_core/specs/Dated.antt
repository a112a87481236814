-- Lines behind the date of their event.
use Rattle.std.specs.Prelude.{ℕ, List, [], ◌∷◌, ◌++◌, codes, ◌==◌, if◌then◌else◌, unwrap_or}
use Rattle.list_core.specs.Cuts.{cut_at}
use Rattle.date_core.specs.DateText.{date_text}

-- A text by its parts, which line feeds divide, each line of it written so. What follows the last line feed is no line.
abbrev pub lines_as : (List ℕ → List ℕ) → List (List ℕ) → List ℕ
lines_as write [] = []
lines_as write (rest ∷ []) = rest
lines_as write (line ∷ next ∷ others) = write line ++ 10 ∷ lines_as write (next ∷ others)

-- the date of a moment and a space; from the year 10000 on a dash in place of the date
abbrev pub date_mark : ℕ → List ℕ
date_mark moment = unwrap_or (date_text moment) (codes "-") ++ codes " "

-- a text, each line of it behind the date of a moment
unfoldable pub dated : ℕ → List ℕ → List ℕ
dated moment text = lines_as (λ line. date_mark moment ++ line) (cut_at 10 text)

-- what follows the first space
abbrev pub behind_space : List ℕ → List ℕ
behind_space [] = []
behind_space (c ∷ cs) = if c == 32 then cs else behind_space cs

-- a text, each line of it without its first word
unfoldable pub without_dates : List ℕ → List ℕ
without_dates text = lines_as behind_space (cut_at 10 text)
