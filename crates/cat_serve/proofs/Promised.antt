-- What a session promises, from its visits one after another.
use Rattle.std.proofs.Common.{◌≡◌, ℕ, List, [], ◌∷◌, ◌++◌, Option, refl, sym, ◌∙◌, ap, subst}
use Rattle.std.proofs.lemmas.List.{append_assoc, append-nil}
use Rattle.std.specs.Io.KnownBytes.{Appends}
use Rattle.cat_checks.specs.Histories.{IsLegalFrom}
use Rattle.cat_desk.specs.Log.{BeginsWith}
use Rattle.cat_desk.specs.LogLaws.{begins_on}
use Rattle.cat_desk.specs.Pass.{DeskId, number_of, seen}
use Rattle.cat_desk.specs.declared.pass.Pass.{Pass}
use Rattle.cat_model.specs.declared.log_entry.LogEntry.{LogEntry}
use Rattle.cat_rest.specs.Wanted.{wanted}
use Rattle.cat_serve.specs.declared.ending.Session.{Session as End}
use Rattle.cat_serve.specs.Entries.{entries_of}
use Rattle.cat_serve.specs.Passes.{EndsBy, GoesBy, Place, Visit, Visits, Went, place}
use Rattle.cat_serve.specs.Serving.{AreAnswered, GrowsTo, Rises, Serves, made_by, replies_of}
use Rattle.cat_serve.specs.ServingLaws.{grows_to_itself, grows_to_on}
use Rattle.cat_serve.specs.Sessions.{Readings}
use Rattle.cat_serve.proofs.Making.{makes_begins, makes_own, mark_grows}
use Rattle.cat_serve.proofs.Told.{appends_nothing, appends_on}

-- ---- one visit, and then others

rises_to : (p : Pass) (visits : List Visit) (q : Pass) → Rises p visits q → GrowsTo p q
rises_to p [] q same = subst (λ (x : Pass). GrowsTo p x) (sym same) (grows_to_itself p)
rises_to p (v ∷ visits) q (is, first, later, rest) = subst (λ (x : Pass). GrowsTo x q) is (grows_to_on v.before v.after q first later)

visit_rises : (v : Visit) (visits : List Visit) (p b q : Pass) → v.before ≡ p → v.after ≡ b → GrowsTo v.before v.after → Rises b visits q → Rises p (v ∷ visits) q
visit_rises v visits p b q before after grows rest =
    let on = subst (λ (x : Pass). Rises x visits q) (sym after) rest in
    (before, grows, rises_to v.after visits q on, on)

own_between : (n : ℕ) (p q x y : Pass) (made : List LogEntry) → x ≡ p → y ≡ q → number_of p ≡ n → entries_of (number_of x) (seen y) ≡ entries_of (number_of x) (seen x) ++ made
    → entries_of n (seen q) ≡ entries_of n (seen p) ++ made
own_between n p q x y made before after number own =
    let at_q = subst (λ (z : Pass). entries_of (number_of x) (seen z) ≡ entries_of (number_of x) (seen x) ++ made) after own in
    let at_p = subst (λ (z : Pass). entries_of (number_of z) (seen q) ≡ entries_of (number_of z) (seen z) ++ made) before at_q in
    subst (λ (m : ℕ). entries_of m (seen q) ≡ entries_of m (seen p) ++ made) number at_p

own_on : (n : ℕ) (p b q : Pass) (made more : List LogEntry) → entries_of n (seen b) ≡ entries_of n (seen p) ++ made → entries_of n (seen q) ≡ entries_of n (seen b) ++ more
    → entries_of n (seen q) ≡ entries_of n (seen p) ++ (made ++ more)
own_on n p b q made more own rest = rest ∙ ap (λ (l : List LogEntry). l ++ more) own ∙ append_assoc (entries_of n (seen p)) made more

module _ (desk : DeskId) (attempts : ℕ) where
  grew : (v : Visit) (a b : Place) → Visits desk attempts a v b → GrowsTo v.before v.after
  grew v a b visit = (
    makes_begins desk (wanted v.message) v.taken v.before v.after v.told v.made visit.is.makes,
    mark_grows desk attempts (wanted v.message) v.taken v.before v.after v.told visit.is.comes,
  )

  owns : (n : ℕ) (v : Visit) (a b : Place) → Visits desk attempts a v b → number_of a.pass ≡ n → entries_of n (seen b.pass) ≡ entries_of n (seen a.pass) ++ v.made
  owns n v a b visit number =
      own_between n a.pass b.pass v.before v.after v.made visit.is.before visit.is.after number
      (makes_own desk (wanted v.message) v.taken v.before v.after v.told v.made visit.is.makes)

  -- ---- all of them

  written_all : (visits : List Visit) (a c : Place) → GoesBy desk attempts visits a c → Appends a.held c.held (replies_of visits)
  written_all [] a c same = subst (λ (x : Place). Appends a.held x.held []) same (appends_nothing a.held)
  written_all (v ∷ visits) a c (b, visit, stays, told, rest) = appends_on a.held b.held c.held v.reply (replies_of visits) told (written_all visits b c rest)

  module _ (end : End) (unread : Option (List ℕ)) (tail : List ℕ) (z : Place) where
    answered_all : (visits last : List Visit) (a c : Place) → GoesBy desk attempts visits a c → EndsBy desk attempts c end unread last tail z → AreAnswered desk attempts (visits ++ last)
    answered_all [] [] a c same ends = tt
    answered_all [] (v ∷ []) a c same (visit, told) = (visit.is.comes, tt)
    answered_all [] (v ∷ w ∷ more) a c same ends = absurd ends
    answered_all (v ∷ visits) last a c (b, visit, stays, told, rest) ends = (visit.is.comes, answered_all visits last b c rest ends)

    rises_all : (visits last : List Visit) (a c : Place) → GoesBy desk attempts visits a c → EndsBy desk attempts c end unread last tail z → Rises a.pass (visits ++ last) z.pass
    rises_all [] [] a c same ends = ends.0 ∙ ap (λ (x : Place). x.pass) (sym same)
    rises_all [] (v ∷ []) a c same (visit, told) =
        visit_rises v [] a.pass z.pass z.pass (visit.is.before ∙ ap (λ (x : Place). x.pass) (sym same)) visit.is.after (grew v c z visit) refl
    rises_all [] (v ∷ w ∷ more) a c same ends = absurd ends
    rises_all (v ∷ visits) last a c (b, visit, stays, told, rest) ends =
        visit_rises v (visits ++ last) a.pass b.pass z.pass visit.is.before visit.is.after (grew v a b visit) (rises_all visits last b c rest ends)

    own_all : (n : ℕ) (visits last : List Visit) (a c : Place) → GoesBy desk attempts visits a c → EndsBy desk attempts c end unread last tail z → number_of a.pass ≡ n
        → entries_of n (seen z.pass) ≡ entries_of n (seen a.pass) ++ made_by (visits ++ last)
    own_all n [] [] a c same ends number =
        ap (λ (x : Pass). entries_of n (seen x)) (ends.0 ∙ ap (λ (x : Place). x.pass) (sym same)) ∙ sym (append-nil (entries_of n (seen a.pass)))
    own_all n [] (v ∷ []) a c same (visit, told) number =
        let at_a = subst (λ (x : Place). Visits desk attempts x v z) (sym same) visit in
        own_on n a.pass z.pass z.pass v.made [] (owns n v a z at_a number) (sym (append-nil (entries_of n (seen z.pass))))
    own_all n [] (v ∷ w ∷ more) a c same ends number = absurd ends
    own_all n (v ∷ visits) last a c (b, visit, stays, told, rest) ends number =
        own_on n a.pass b.pass z.pass v.made (made_by (visits ++ last)) (owns n v a b visit number) (own_all n visits last b c rest ends (visit.is.number ∙ number))

  -- the whole promise of a session that went so, on a pass that was ready, of a legal log
  pub serves : (a : Place) (end : End) (unread : Option (List ℕ)) (pass : Pass) (now : Option Readings) (held : Option (List ℕ)) → Went desk attempts a end unread pass now held
      → BeginsWith desk.begun (seen a.pass) → IsLegalFrom desk.opened (seen pass) → Serves desk attempts a end unread pass now held
  serves a end unread pass now held went starts legal =
      let e = went.ended in
      let z = place e.left pass now e.rest held in
      let rises = rises_all end unread e.tail z went.visits e.last a went.c went.goes e.ends in
      let grows = rises_to a.pass (went.visits ++ e.last) pass rises in
      record {
        went = went;
        replies = appends_on a.held went.c.held held (replies_of went.visits) e.tail (written_all went.visits a went.c went.goes) e.written;
        answers = answered_all end unread e.tail z went.visits e.last a went.c went.goes e.ends;
        legal = legal;
        rises = rises;
        starts = begins_on desk.begun (seen a.pass) (seen pass) starts grows.0;
        once = own_all end unread e.tail z (number_of a.pass) went.visits e.last a went.c went.goes e.ends refl;
        begins = grows.0;
        marks = grows.1;
      }
