use Rattle.std.proofs.Common.{rules, ◌≡◌, [], ◌∷◌, ◌++◌, List, Option, Some, option_to_list, ◌∙◌, ap, sym, append_assoc}
use Rattle.cat_io.proofs.memory_listener.with_rest.Goals as goal

-- one that goes from the front of what is behind to the end of what is before leaves all as it was
one_on : {A : Type 0} (front pushed behind rest all : List A) (popped : Option A) (x : A) → front ++ behind ≡ all → behind ≡ option_to_list popped ++ rest → popped ≡ Some x → pushed ≡ front ++ x ∷ []
    → pushed ++ rest ≡ all
one_on {A} front pushed behind rest all popped x is cut one put =
    ap (λ (l : List A). l ++ rest) put ∙ append_assoc front (x ∷ []) rest ∙ ap (λ (o : Option A). front ++ (option_to_list o ++ rest)) (sym one) ∙ ap (λ (l : List A). front ++ l) (sym cut) ∙ is

pub loop-connection-preserved : goal.loop-connection-preserved
loop-connection-preserved c = (
  one_on c.loop-connection.returned.items _ c.loop-connection.waiting.items _ _ c.pop_front.result _ c.loop-connection.invariant.0 c.pop_front.ensures.items (search rules) c.push_reserved.ensures.items,
  search rules,
)
