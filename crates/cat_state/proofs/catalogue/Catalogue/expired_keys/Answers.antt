use Rattle.std.proofs.Common.{◌≡◌, [], ◌∷◌, List, ◌++◌, true, false, refl, sym, ap, ◌∙◌, append_assoc}
use Rattle.std.specs.Prelude.{is_none}
use Rattle.std.proofs.lemmas.List.{append-nil}
use Rattle.cat_names.specs.Fields.{Key}
use Rattle.cat_model.specs.Maps.{Map}
use Rattle.cat_model.specs.Records.{expired_keys}
use Rattle.cat_model.specs.State.{State, content_at}
use Rattle.cat_model.specs.declared.entry.Entry.{Entry}
use Rattle.cat_state.proofs.catalogue.Catalogue.expired_keys.Goals as goal

held : (state : State) (m : Map) (x : Key × Entry) (rest : Map) → m ≡ x ∷ rest → is_none (content_at state.present x.1.hash) ≡ false → expired_keys state m ≡ expired_keys state rest
unfolding expired_keys
held state m x rest e h = ap (expired_keys state) e ∙ rw h refl

gone : (state : State) (m : Map) (x : Key × Entry) (rest : Map) → m ≡ x ∷ rest → is_none (content_at state.present x.1.hash) ≡ true → expired_keys state m ≡ x.0 ∷ expired_keys state rest
unfolding expired_keys
gone state m x rest e h = ap (expired_keys state) e ∙ rw h refl

pub loop-key-preserved-in_ok-push : goal.loop-key-preserved-in_ok-push
loop-key-preserved-in_ok-push c =
    let state = c.args.self.now in
    let keys = c.loop-key.keys in
    let key = c.in-Some.key.now in
    let rest = expired_keys state c.next.new.self in
    let more = gone state c.loop-key.rest (key, c.in-Some.entry) c.next.new.self c.in-Some.ensures (sym c.is_expired.ensures ∙ c.if-is_expired.true) in
    let pushed : c.push.new.self ≡ keys ++ key ∷ [] = c.in_ok-push.ensures.ok ∙ ap (λ (k : Key). keys ++ k ∷ []) c.in_ok-clone.ensures.cases in
    ap (λ (l : List Key). l ++ rest) pushed ∙ append_assoc keys (key ∷ []) rest ∙ ap (λ (l : List Key). keys ++ l) (sym more) ∙ c.loop-key.invariant

pub loop-key-preserved : goal.loop-key-preserved
loop-key-preserved c =
    let state = c.args.self.now in
    let more = held state c.loop-key.rest (c.in-Some.key.now, c.in-Some.entry) c.next.new.self c.in-Some.ensures (sym c.is_expired.ensures ∙ c.if-is_expired.false) in
    ap (λ (l : List Key). c.loop-key.keys ++ l) (sym more) ∙ c.loop-key.invariant

none_expired : (state : State) (m : Map) → m ≡ [] → expired_keys state m ≡ []
unfolding expired_keys
none_expired state m e = ap (expired_keys state) e

pub returns : goal.returns
returns c =
    let keys = c.loop-key.keys in
    sym (append-nil keys) ∙ ap (λ (l : List Key). keys ++ l) (sym (none_expired c.args.self.now c.loop-key.rest c.in_default.ensures)) ∙ c.loop-key.invariant
