-- No step and no answer refuses for want of memory, a fault, or attempts that were spent.
use Rattle.std.proofs.Common.{ℕ, List, [], ◌∷◌, Option, Some, None, Ok, refl}
use Rattle.std.specs.Option.{option_map}
use Rattle.sha2.specs.Sha256.{sha256}
use Rattle.cat_names.specs.Fields.{Key}
use Rattle.cat_names.specs.declared.hash.Hash.{Hash}
use Rattle.cat_model.specs.declared.ask.Ask.{Ask}
use Rattle.cat_model.specs.declared.ask.Ask.TheVariants as asks
use Rattle.cat_model.specs.declared.command.Command.{Command}
use Rattle.cat_model.specs.declared.content.Content.{Content}
use Rattle.cat_model.specs.declared.entry.Entry.{Entry}
use Rattle.cat_model.specs.declared.reference.Effective.{Effective}
use Rattle.cat_model.specs.declared.refusal.Missing.TheVariants as missing
use Rattle.cat_model.specs.declared.refusal.Refusal.TheVariants.{ContentNotFound, RefNotFound}
use Rattle.cat_model.specs.declared.reply.Reply.TheVariants as replies
use Rattle.cat_model.specs.Answer.{answer, answer_content, answer_contents, answer_entries, answer_history, answer_reference, effective_at, needs_until, turned_to}
use Rattle.cat_model.specs.CauseLaws.{HasEarly, HasSteps, causes_bind, causes_needs, opening_causes, perhaps_causes, positioned_causes, step_causes}
use Rattle.cat_model.specs.Chain.{entries, on_chain}
use Rattle.cat_model.specs.Maps.{entry_of}
use Rattle.cat_model.specs.Moves.{needs_contents}
use Rattle.cat_model.specs.Records.{expired_keys, needs_no_expired}
use Rattle.cat_model.specs.Refusing.{◌>>=◌, found, needs, perhaps_named, positioned}
use Rattle.cat_model.specs.State.{State, content_at, is_known}
use Rattle.cat_model.specs.Step.{Turn, opening, step}
use Rattle.cat_core.specs.PlainLaws.{IsUsual, is_usual}

usual_early : HasEarly is_usual
usual_early = record { bad = λ reason. refl; missing = refl }

usual_steps : HasSteps is_usual
usual_steps = record {
  early = usual_early;
  exists = refl;
  conflicts = λ list. refl;
  references = λ n. refl;
  log = λ n. refl;
  commits = λ n. refl;
  keys = λ n. refl;
  contents = λ n. refl;
  collision = λ hash kept bytes. refl;
}

usual_held : (keys : List Key) (place : ℕ) → IsUsual (needs_no_expired keys place)
usual_held [] place = tt
usual_held (key ∷ keys) place = refl

usual_visible : (state : State) (hash : Hash) → IsUsual (needs_contents state hash)
unfolding needs_contents
usual_visible state hash = usual_held (expired_keys state (entries state.commits hash)) state.place

pub usual_step : (state : State) (c : Command) (turn : Turn) → IsUsual (step sha256 state c turn)
usual_step state c turn = step_causes sha256 is_usual usual_steps state c turn (usual_visible state) (λ planned. usual_held _ turn.opened)

pub usual_opening : (state : State) (c : Command) → IsUsual (opening sha256 state c)
usual_opening state c = opening_causes sha256 is_usual usual_early state c

-- ---- reading

usual_turned : (state : State) (hash : Hash) (other : Option Hash) → IsUsual (turned_to sha256 state hash other)
usual_turned state hash None = tt
usual_turned state hash (Some other) = causes_bind is_usual (needs (is_known sha256 state other) RefNotFound) (λ u. Ok other) (causes_needs is_usual _ RefNotFound refl) (λ u. tt)

usual_until : (state : State) (hash : Hash) (until : Option Hash) → IsUsual (needs_until state hash until)
usual_until state hash None = tt
usual_until state hash (Some last) = causes_needs is_usual (on_chain state.commits hash last) RefNotFound refl

usual_last : (content : Option Content) (e : Effective) → IsUsual (found content (ContentNotFound missing.Expired) >>= λ content. Ok (replies.Content (record { effective = e; content = content })))
usual_last None e = refl
usual_last (Some content) e = tt

usual_tail : (entry : Option Entry) (present : List (Hash × Content)) (e : Effective)
    → IsUsual (found entry (ContentNotFound missing.Absent) >>= λ entry. found (content_at present entry.hash) (ContentNotFound missing.Expired) >>= λ content. Ok (replies.Content (record { effective = e; content = content })))
usual_tail None present e = refl
usual_tail (Some entry) present e = usual_last (content_at present entry.hash) e

-- no answer is refused so
pub usual_answer : (state : State) (ask : Ask) → IsUsual (answer sha256 state ask)
unfolding answer_reference answer_entries answer_history answer_contents answer_content
usual_answer state asks.Config = tt
usual_answer state (asks.References a) = tt
usual_answer state (asks.Reference p) =
    causes_bind is_usual (perhaps_named state p.from.name) _ (perhaps_causes sha256 is_usual usual_early state p.from.name) (λ r.
    causes_bind is_usual (positioned sha256 state r p) _ (positioned_causes sha256 is_usual usual_early state r p) (λ h. tt))
usual_answer state (asks.Entries a) =
    causes_bind is_usual (perhaps_named state a.at.from.name) _ (perhaps_causes sha256 is_usual usual_early state a.at.from.name) (λ r.
    causes_bind is_usual (positioned sha256 state r a.at) _ (positioned_causes sha256 is_usual usual_early state r a.at) (λ h.
    causes_bind is_usual (turned_to sha256 state h (option_map (λ x. x.0) a.after)) _ (usual_turned state h (option_map (λ x. x.0) a.after)) (λ g. tt)))
usual_answer state (asks.History a) =
    causes_bind is_usual (perhaps_named state a.at.from.name) _ (perhaps_causes sha256 is_usual usual_early state a.at.from.name) (λ r.
    causes_bind is_usual (positioned sha256 state r a.at) _ (positioned_causes sha256 is_usual usual_early state r a.at) (λ h.
    causes_bind is_usual (turned_to sha256 state h a.from) _ (usual_turned state h a.from) (λ g.
    causes_bind is_usual (needs_until state g a.until) _ (usual_until state g a.until) (λ u. tt))))
usual_answer state (asks.Contents a) =
    causes_bind is_usual (perhaps_named state a.at.from.name) _ (perhaps_causes sha256 is_usual usual_early state a.at.from.name) (λ r.
    causes_bind is_usual (positioned sha256 state r a.at) _ (positioned_causes sha256 is_usual usual_early state r a.at) (λ h. tt))
usual_answer state (asks.Content a) =
    causes_bind is_usual (perhaps_named state a.at.from.name) _ (perhaps_causes sha256 is_usual usual_early state a.at.from.name) (λ r.
    causes_bind is_usual (positioned sha256 state r a.at) _ (positioned_causes sha256 is_usual usual_early state r a.at) (λ h.
    usual_tail (entry_of (entries state.commits h) a.key) state.present (effective_at r h)))
