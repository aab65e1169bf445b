-- A size line and a head end in a line feed: where none came, neither did.
use Rattle.std.proofs.Common.{arith, ◌≡◌, ℕ, ◌-◌, ◌≤◌, true, false, List, [], ◌∷◌, ◌++◌, length, take, drop, sym, ap, ◌∙◌, refl, append_assoc, length-append, inl, inr, subst}
use Rattle.std.proofs.lemmas.Bool.{cases_lt, or_from, or_parts}
use Rattle.std.proofs.lemmas.List.{drop_at, drop-append-le, take_all, take-append-drop, take-take}
use Rattle.std.proofs.lemmas.List.Folds.{list_any-append}
use Rattle.std.proofs.lemmas.Slice.{between_is}
use Rattle.std.specs.List.{flat_map}
use Rattle.std.specs.Prelude.{◌==◌, slice_range}
use Rattle.httparse.specs.Grammar.{LineEnd, crlf, lf, print_end, print_blank, print_version, print_field, RequestHead, print_request, HasNoRequest, ChunkLine, print_chunk_line, print_extension, HasNoChunkLine}
use Rattle.httparse.proofs.GrammarLemmas.{cons-append}
use Rattle.cat_http.specs.Lines.{has_line_feed}
use Rattle.cat_http.specs.Next.{HasNoHead}
use Rattle.cat_http.proofs.ChunkBuffer.{slice_split}
use Rattle.cat_http.proofs.HeadLemmas.{front_seen}
use Rattle.cat_http.proofs.StreamLemmas.{range_same}

ends_in_feed : (l : ChunkLine) → print_chunk_line l ≡ (l.digits ++ (l.pad ++ (print_extension l.extension ++ 13 ∷ []))) ++ 10 ∷ []
unfolding print_chunk_line
ends_in_feed l = simp append_assoc

abbrev end_front : LineEnd → List ℕ
end_front crlf = 13 ∷ []
end_front lf = []

end_ends : (e : LineEnd) → print_end e ≡ end_front e ++ 10 ∷ []
end_ends crlf = refl
end_ends lf = refl

-- a head without the line feed at its end
abbrev head_front : RequestHead → List ℕ
head_front h =
    print_blank h.blank ++ (h.method ++ 32 ∷ (h.target ++ 32 ∷ (print_version h.minor ++ (print_end h.line_end ++ (flat_map print_field h.fields ++ end_front h.last)))))

head_ends : (h : RequestHead) → print_request h ≡ head_front h ++ 10 ∷ []
unfolding print_request
head_ends h =
    let fields = flat_map print_field h.fields in
    ap (λ last. print_blank h.blank ++ h.method ++ 32 ∷ h.target ++ 32 ∷ print_version h.minor ++ print_end h.line_end ++ (fields ++ last)) (end_ends h.last)
    ∙ regroup (print_blank h.blank) h.method h.target (print_version h.minor) (print_end h.line_end) fields (end_front h.last)
  where
    regroup : (a b c d e f g : List ℕ)
        → a ++ b ++ 32 ∷ c ++ 32 ∷ d ++ e ++ (f ++ (g ++ 10 ∷ [])) ≡ (a ++ (b ++ 32 ∷ (c ++ 32 ∷ (d ++ (e ++ (f ++ g)))))) ++ 10 ∷ []
    regroup a b c d e f g = simp (append_assoc, cons-append)

-- a list with a line feed has one
feed_there : (front back : List ℕ) → has_line_feed (front ++ 10 ∷ back) ≡ false → ⊥
feed_there front back quiet =
    let parts = or_parts (has_line_feed front) (has_line_feed (10 ∷ back)) (sym (list_any-append (λ b. b == 10) front (10 ∷ back)) ∙ quiet) in
    absurd (no parts.1)
  where
    no : true ≡ false → ⊥
    no e = cc

-- none came before, and none behind
pub quiet_more : (b b' : List ℕ) (first e e' : ℕ) → first ≤ e → e ≤ e' → take e b' ≡ take e b → has_line_feed (slice_range b first e) ≡ false → has_line_feed (slice_range b' e e') ≡ false
    → has_line_feed (slice_range b' first e') ≡ false
quiet_more b b' first e e' order grows same before behind =
    ap has_line_feed (slice_split b' first e e' order grows)
    ∙ list_any-append (λ x. x == 10) (slice_range b' first e) (slice_range b' e e')
    ∙ or_from (has_line_feed (slice_range b' first e)) (has_line_feed (slice_range b' e e'))
    (ap has_line_feed (range_same b' b e first e same (omega arith)) ∙ before) behind

-- what ends in a line feed was there whole, where none came behind it
whole_before : (seen more part front rest : List ℕ) → part ≡ front ++ 10 ∷ [] → has_line_feed more ≡ false → seen ++ more ≡ part ++ rest
    → seen ≡ part ++ take (length seen - length part) rest
whole_before seen more part front rest ends quiet reads = elim (cases_lt (length seen) (length part)) [
  | inl past ↦
      let m = length seen in
      let all : seen ++ more ≡ front ++ 10 ∷ rest = reads ∙ ap (λ s. s ++ rest) ends ∙ append_assoc front (10 ∷ []) rest in
      let back : more ≡ drop m front ++ 10 ∷ rest =
      sym (drop_at seen more m refl) ∙ ap (drop m) all ∙ drop-append-le m front (10 ∷ rest) (omega (arith, past, ap length ends, length-append front (10 ∷ []))) in
      absurd (feed_there (drop m front) rest (ap has_line_feed (sym back) ∙ quiet))
  | inr within ↦
      let n = length seen in
      sym (take_all n seen (omega arith)) ∙ front_seen seen more part rest n (omega arith) (omega arith) reads
]

-- where no line was there, and no line feed came behind it, none is there
pub no_line_more : (seen more : List ℕ) → HasNoChunkLine seen → has_line_feed more ≡ false → HasNoChunkLine (seen ++ more)
no_line_more seen more none quiet l rest (is, reads) =
    none l (take (length seen - length (print_chunk_line l)) rest) (is, whole_before seen more (print_chunk_line l) _ rest (ends_in_feed l) quiet reads)

-- where no head was there, and no line feed came behind it, none is there
no_head_more : (seen more : List ℕ) → HasNoRequest seen → has_line_feed more ≡ false → HasNoHead (seen ++ more)
no_head_more seen more none quiet h rest is =
    none h (take (length seen - length (print_request h)) rest) (is.reads.0, whole_before seen more (print_request h) (head_front h) rest (head_ends h) quiet is.reads.1)

-- the same of the bytes that a line was read into
pub no_head_read : (b b' : List ℕ) (n e e' : ℕ) → n ≡ e → e ≤ e' → take e b' ≡ take e b → HasNoRequest (take n b) → has_line_feed (slice_range b' e e') ≡ false
    → HasNoHead (take e' b')
no_head_read b b' n e e' all grows front none quiet =
    let came : take e' b' ≡ take e b ++ slice_range b' e e' =
    sym (take-append-drop e (take e' b')) ∙ ap (λ xs. xs ++ drop e (take e' b')) (take-take e e' b' grows ∙ front) ∙ ap (λ xs. take e b ++ xs) (sym (between_is b' e e')) in
    subst HasNoHead (sym came) (no_head_more (take e b) (slice_range b' e e') (subst (λ k. HasNoRequest (take k b)) all none) quiet)
