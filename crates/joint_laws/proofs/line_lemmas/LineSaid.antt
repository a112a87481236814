-- What an object says, as the line of text that stands for the same.
use Rattle.std.specs.Prelude.{ℕ, Bool, true, false, not, ◌&&◌, List, [], ◌∷◌, ◌++◌, codes, Option, Some, None, if◌then◌else◌}
use Rattle.std.specs.List.{concat, join_with_byte}
use Rattle.std.specs.Str.{bytes_eq}
use Rattle.json.specs.Json.{Json, null, boolean, number, string, array, object, Items, no_items, item, Members, no_members, member, document}
use Rattle.list_core.specs.Cuts.{cut_at}
use Rattle.joint_laws.proofs.object_lemmas.Spoken.{inner, members_said, value_said}

-- ---- fields

-- the value under a name
abbrev pub at : List ℕ → Members → Json
at name no_members = null
at name (member k j ms) = if bytes_eq k name then j else at name ms

-- the word of a value
abbrev pub word : List ℕ → Members → List ℕ
word name ms = inner (at name ms)

-- a word, or a dash for null
abbrev pub word_or_dash : Json → List ℕ
word_or_dash null = codes "-"
word_or_dash (boolean b) = inner (boolean b)
word_or_dash (number s) = s
word_or_dash (string s) = s
word_or_dash _ = []

-- a text between quotation marks, or a dash for null
abbrev pub text_or_dash : Json → List ℕ
text_or_dash null = codes "-"
text_or_dash (string s) = value_said (string s)
text_or_dash _ = []

-- behind a sign, where the field is there
abbrev pub behind : List ℕ → Json → List ℕ
behind sign (boolean b) = sign ++ inner (boolean b)
behind sign (number s) = sign ++ s
behind sign (string s) = sign ++ s
behind _ _ = []

-- the field is there
abbrev pub is_there : Json → Bool
is_there null = false
is_there _ = true

-- ---- frames

abbrev pub envelope_words : List ℕ → List ℕ → List ℕ → List ℕ → List ℕ → List ℕ → List ℕ
envelope_words destination source tag app_id reserved1 reserved2 =
    concat (destination ∷ codes " " ∷ source ∷ (codes " tag=" ++ tag) ∷ (codes " appid=" ++ app_id) ∷ (codes " r1=" ++ reserved1) ∷ (codes " r2=" ++ reserved2) ∷ [])

abbrev pub goose_words : List ℕ → List ℕ → List ℕ → List ℕ → List ℕ → List ℕ → List ℕ → List ℕ → List ℕ → List ℕ → List ℕ → List ℕ
goose_words ref live set id t state sequence simulation rev commissioning members =
    concat (
    (codes " ref=" ++ ref)
    ∷ (codes " live=" ++ live)
    ∷ (codes " set=" ++ set)
    ∷ (codes " id=" ++ id)
    ∷ codes " t="
    ∷ t
    ∷ (codes " st=" ++ state)
    ∷ (codes " sq=" ++ sequence)
    ∷ (codes " sim=" ++ simulation)
    ∷ (codes " rev=" ++ rev)
    ∷ (codes " com=" ++ commissioning)
    ∷ codes " "
    ∷ members
    ∷ []
    )

abbrev pub asdu_words : List ℕ → List ℕ → List ℕ → List ℕ → List ℕ → List ℕ → List ℕ → List ℕ → List ℕ → List ℕ → List ℕ
asdu_words id set count rev t synch rate sample modulus field89 =
    concat (
    (codes "(id=" ++ id)
    ∷ (codes " set=" ++ set)
    ∷ (codes " cnt=" ++ count)
    ∷ (codes " rev=" ++ rev)
    ∷ (codes " t=" ++ t)
    ∷ (codes " synch=" ++ synch)
    ∷ (codes " rate=" ++ rate)
    ∷ (codes " sample=" ++ sample)
    ∷ (codes " mod=" ++ modulus)
    ∷ (codes " f89=" ++ field89)
    ∷ codes ")"
    ∷ []
    )

abbrev pub frame_words : List ℕ → List ℕ → List ℕ → List ℕ → List ℕ → List ℕ
frame_words n kind envelope apdu trailer = concat (n ∷ kind ∷ envelope ∷ apdu ∷ (codes " trailer=" ++ trailer) ∷ codes "\n" ∷ [])

abbrev envelope_said : Members → List ℕ
envelope_said ms =
    envelope_words (word (codes "destination") ms) (word (codes "source") ms) (word_or_dash (at (codes "tag") ms)) (word (codes "appid") ms) (word (codes "reserved1") ms) (word (codes "reserved2") ms)

abbrev goose_said : Members → List ℕ
goose_said ms =
    goose_words (value_said (at (codes "gocbRef") ms)) (word (codes "timeAllowedtoLive") ms) (value_said (at (codes "datSet") ms)) (text_or_dash (at (codes "goID") ms)) (word (codes "t") ms)
    (word (codes "stNum") ms) (word (codes "sqNum") ms) (word (codes "simulation") ms) (word (codes "confRev") ms) (word (codes "ndsCom") ms) (members_said (at (codes "members") ms))

abbrev pub asdu_said : Json → List ℕ
asdu_said (object ms) =
    asdu_words (value_said (at (codes "svID") ms)) (text_or_dash (at (codes "datSet") ms)) (word (codes "smpCnt") ms) (word (codes "confRev") ms) (word_or_dash (at (codes "refrTm") ms))
    (word (codes "smpSynch") ms) (word_or_dash (at (codes "smpRate") ms)) (word (codes "sample") ms) (word_or_dash (at (codes "smpMod") ms)) (word_or_dash (at (codes "field89") ms))
asdu_said _ = []

abbrev pub asdus_said : Items → List (List ℕ)
asdus_said no_items = []
asdus_said (item j js) = asdu_said j ∷ asdus_said js

abbrev pub sv_words : List (List ℕ) → List ℕ
sv_words asdus = 32 ∷ 123 ∷ join_with_byte 32 asdus ++ 125 ∷ []

abbrev sv_said : Json → List ℕ
sv_said (array js) = sv_words (asdus_said js)
sv_said _ = []

-- ---- what was lost

-- of which sender or stream
abbrev pub key_words : Members → List ℕ
key_words ms =
    if is_there (at (codes "svID") ms) then concat (codes " appid=" ∷ word (codes "appid") ms ∷ codes " source=" ∷ word (codes "source") ms ∷ codes " id=" ∷ value_said (at (codes "svID") ms) ∷ [])
    else concat (codes " appid=" ∷ word (codes "appid") ms ∷ codes " ref=" ∷ value_said (at (codes "gocbRef") ms) ∷ codes " sim=" ∷ word (codes "simulation") ms ∷ [])

-- the number under a name, behind a sign
abbrev pub number_words : List ℕ → List ℕ → Members → List ℕ
number_words sign name ms = sign ++ word name ms

-- the object tells of a sender or a stream, and of no block
abbrev pub tells_loss : Members → Bool
tells_loss ms = is_there (at (codes "appid") ms) && not (is_there (at (codes "block") ms))

-- its numbers, and the end of the line
abbrev pub loss_numbers : Members → List ℕ
loss_numbers ms =
    behind (codes " since=") (at (codes "since") ms)
    ++ (behind (codes " for=") (at (codes "for") ms)
    ++ (behind (codes " st=") (at (codes "stNum") ms)
    ++ (behind (codes " sq=") (at (codes "sqNum") ms)
    ++ (behind (codes " from=") (at (codes "from") ms)
    ++ (behind (codes " to=") (at (codes "to") ms) ++ (behind (codes " missing=") (at (codes "missing") ms) ++ (behind (codes " cnt=") (at (codes "smpCnt") ms) ++ codes "\n")))))))

abbrev pub loss_words : List ℕ → List ℕ → Members → List ℕ
loss_words n kind ms = n ++ (codes " " ++ (kind ++ (key_words ms ++ loss_numbers ms)))

-- what has not come back at the end
abbrev pub end_silent_words : Members → List ℕ
end_silent_words ms = concat (codes "end silent" ∷ key_words ms ∷ number_words (codes " since=") (codes "since") ms ∷ number_words (codes " for=") (codes "for") ms ∷ codes "\n" ∷ [])

-- what frames come to
abbrev pub total_goose_words : Members → List ℕ
total_goose_words ms =
    concat (
    codes "total goose"
    ∷ key_words ms
    ∷ number_words (codes " frames=") (codes "frames") ms
    ∷ number_words (codes " states-missing=") (codes "statesMissing") ms
    ∷ number_words (codes " frames-missing=") (codes "framesMissing") ms
    ∷ number_words (codes " late=") (codes "late") ms
    ∷ number_words (codes " repeated=") (codes "repeated") ms
    ∷ number_words (codes " restarted=") (codes "restarted") ms
    ∷ number_words (codes " silent=") (codes "silent") ms
    ∷ number_words (codes " longest=") (codes "longest") ms
    ∷ codes "\n"
    ∷ []
    )

-- what samples come to, where they are judged and where they are counted alone
abbrev pub judged_words : Members → List ℕ
judged_words ms =
    concat (
    codes "total sv"
    ∷ key_words ms
    ∷ number_words (codes " samples=") (codes "samples") ms
    ∷ number_words (codes " missing=") (codes "missing") ms
    ∷ number_words (codes " late=") (codes "late") ms
    ∷ number_words (codes " repeated=") (codes "repeated") ms
    ∷ number_words (codes " out-of-range=") (codes "outOfRange") ms
    ∷ number_words (codes " outages=") (codes "outages") ms
    ∷ number_words (codes " longest=") (codes "longest") ms
    ∷ codes "\n"
    ∷ []
    )

abbrev pub counted_words : Members → List ℕ
counted_words ms = concat (codes "total sv" ∷ key_words ms ∷ number_words (codes " samples=") (codes "samples") ms ∷ codes "\n" ∷ [])

-- ---- lines

abbrev pub stream_words : List ℕ → List ℕ → List ℕ
stream_words id rev = concat (codes "id=" ∷ id ∷ codes " rev=" ∷ rev ∷ [])

abbrev pub act_words : List ℕ → List ℕ → List ℕ → List ℕ → List ℕ → List ℕ → List ℕ
act_words n block state sequence t members =
    n ++ codes " act " ++ block ++ (codes " st=" ++ state ++ codes " sq=" ++ sequence) ++ (codes " t=" ++ t) ++ (codes " " ++ members) ++ codes "\n"

-- what follows the number of a line, by its kind
abbrev pub kind_said : List ℕ → List ℕ → Members → List ℕ
kind_said n kind ms =
    if bytes_eq kind (codes "goose") then frame_words n (codes " goose ") (envelope_said ms) (goose_said ms) (word_or_dash (at (codes "trailer") ms))
    else if bytes_eq kind (codes "sv") then frame_words n (codes " sv ") (envelope_said ms) (sv_said (at (codes "asdus") ms)) (word_or_dash (at (codes "trailer") ms))
    else if bytes_eq kind (codes "fault") then n ++ codes " fault " ++ word (codes "offset") ms ++ (codes " " ++ word (codes "error") ms) ++ codes "\n"
    else if bytes_eq kind (codes "clock") then n ++ codes " clock " ++ word (codes "microseconds") ms ++ codes "\n"
    else if bytes_eq kind (codes "mode") then n ++ codes " mode " ++ word (codes "microseconds") ms ++ codes " " ++ word (codes "mode") ms ++ codes "\n"
    else if bytes_eq kind (codes "list") then n ++ codes " list " ++ word (codes "error") ms ++ codes "\n"
    else if bytes_eq kind (codes "capture") then n ++ codes " capture " ++ word (codes "error") ms ++ codes "\n"
    else if bytes_eq kind (codes "act") then act_words n (word (codes "block") ms) (word (codes "stNum") ms) (word (codes "sqNum") ms) (word (codes "t") ms) (members_said (at (codes "members") ms))
    else if bytes_eq kind (codes "block") then n ++ codes " block " ++ word (codes "text") ms ++ codes "\n"
    else if bytes_eq kind (codes "block-changed") then n ++ codes " block-changed " ++ word (codes "text") ms ++ codes "\n"
    else if bytes_eq kind (codes "stream") then n ++ codes " stream " ++ stream_words (value_said (at (codes "svID") ms)) (word (codes "confRev") ms) ++ codes "\n"
    else if bytes_eq kind (codes "stream-changed") then n ++ codes " stream-changed " ++ stream_words (value_said (at (codes "svID") ms)) (word (codes "confRev") ms) ++ codes "\n"
    else if bytes_eq kind (codes "time-back") then n ++ (behind (codes " time-back by=") (at (codes "by") ms) ++ codes "\n")
    else if tells_loss ms then loss_words n kind ms
    else n ++ (behind (codes " ") (at (codes "asdu") ms)
    ++ (behind (codes " ") (at (codes "smpCnt") ms)
    ++ (codes " "
    ++ (kind
    ++ (behind (codes " ") (at (codes "missing") ms)
    ++ (behind (codes " ") (at (codes "block") ms)
    ++ (behind (codes " st=") (at (codes "stNum") ms)
    ++ (behind (codes " sq=") (at (codes "sqNum") ms)
    ++ (behind (codes " ") (at (codes "reason") ms) ++ codes "\n")))))))))

-- a line of no event, by its kind
abbrev pub eventless_said : List ℕ → Members → List ℕ
eventless_said kind ms =
    if bytes_eq kind (codes "blocks") then codes "blocks " ++ word (codes "error") ms ++ codes " " ++ word (codes "block") ms ++ codes "\n"
    else if bytes_eq kind (codes "end-silent") then end_silent_words ms
    else if bytes_eq kind (codes "total-goose") then total_goose_words ms
    else if is_there (at (codes "missing") ms) then judged_words ms
    else counted_words ms

-- the first field is the number, and the kind is one of the others; but of what is no event it is the kind
abbrev pub fields_said : Members → List ℕ
fields_said no_members = []
fields_said (member k j ms) =
    if bytes_eq k (codes "kind") then eventless_said (inner j) ms
    else kind_said (inner j) (word (codes "kind") ms) ms

abbrev pub line_said : Json → List ℕ
line_said (object ms) = fields_said ms
line_said _ = []

-- ---- texts

abbrev pub line_if : Option Json → List ℕ
line_if None = []
line_if (Some j) = line_said j

-- by the parts that line feeds divide
abbrev pub parts_said : List (List ℕ) → List ℕ
parts_said (line ∷ next ∷ others) = line_if (document line) ++ parts_said (next ∷ others)
parts_said _ = []

-- a text of objects, a line each
unfoldable pub back : List ℕ → List ℕ
back text = parts_said (cut_at 10 text)
