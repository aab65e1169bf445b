-- The bytes of a reply.
use Rattle.std.specs.Prelude.{ℕ, Bool, List, [], ◌++◌, length, Option, Some, None, if◌then◌else◌, codes, decimal, unwrap_or}
use Rattle.std.specs.Option.{option_map}
use Rattle.http.specs.StatusCode.{reason_phrase}
use Rattle.cat_http.specs.declared.reply.Body.{Body}
use Rattle.cat_http.specs.declared.reply.Body.TheVariants.{Bytes, NoMemory}
use Rattle.cat_http.specs.declared.reply.Response.{Response}

-- the phrase of a status, if it has one
abbrev pub phrase_of : ℕ → List ℕ
phrase_of status = unwrap_or (reason_phrase status) []

-- a header line with the text, if there is one
abbrev pub text_line : List ℕ → Option (List ℕ) → List ℕ
text_line name None = []
text_line name (Some text) = name ++ text ++ codes "\r\n"

-- a header line with the number, if there is one
abbrev pub number_line : List ℕ → Option ℕ → List ℕ
number_line name None = []
number_line name (Some n) = name ++ decimal n ++ codes "\r\n"

-- the length of the body, where the reply has one
abbrev pub body_length_of : Bool → List ℕ → Option ℕ
body_length_of head_only body = if head_only then None else Some (length body)

abbrev pub close_line : Bool → List ℕ
close_line close = if close then codes "Connection: close\r\n" else []

abbrev pub body_part : Bool → List ℕ → List ℕ
body_part head_only body = if head_only then [] else body

-- the text of the reply that tells of want of memory
abbrev pub no_memory_text : List ℕ
no_memory_text = codes "{\"errorCode\":\"NO_MEMORY\",\"message\":\"no memory\",\"reason\":\"Insufficient Storage\",\"status\":507}"

-- what a body holds
abbrev pub body_bytes : Body → List ℕ
body_bytes (Bytes bytes) = bytes.items
body_bytes NoMemory = no_memory_text

-- the bytes of a reply, by its status, the methods that are allowed, its place, whether the session ends, whether it is to HEAD, and its body
abbrev pub rendered : ℕ → Option (List ℕ) → Option ℕ → Bool → Bool → List ℕ → List ℕ
rendered status allow place close head_only body =
    codes "HTTP/1.1 " ++ decimal status ++ codes " " ++ phrase_of status ++ codes "\r\n"
    ++ codes "Content-Type: application/json\r\n"
    ++ text_line (codes "Allow: ") allow
    ++ number_line (codes "Catalogue-Place: ") place
    ++ number_line (codes "Content-Length: ") (body_length_of head_only body)
    ++ close_line close
    ++ codes "\r\n"
    ++ body_part head_only body

abbrev pub render : Response → List ℕ
render r = rendered r.status (option_map (λ text. text.now) r.allow) r.place r.close r.head_only (body_bytes r.body)
