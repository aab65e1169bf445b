-- What reading calls answer.
use Rattle.std.specs.Prelude.{List, take, drop, Option, Some, None, Result, Ok, Bool, true, false, map, filter_map}
use Rattle.std.specs.Option.{option_map, option_and_then}
use Rattle.cat_names.specs.Fields.{Key}
use Rattle.cat_names.specs.declared.hash.Hash.{Hash}
use Rattle.cat_model.specs.declared.ask.Ask.{Ask}
use Rattle.cat_model.specs.declared.ask.Ask.TheVariants as asks
use Rattle.cat_model.specs.declared.ask.ContentAsk.{ContentAsk}
use Rattle.cat_model.specs.declared.ask.ContentsAsk.{ContentsAsk}
use Rattle.cat_model.specs.declared.ask.EntriesAsk.{EntriesAsk}
use Rattle.cat_model.specs.declared.ask.HistoryAsk.{HistoryAsk}
use Rattle.cat_model.specs.declared.ask.ReferencesAsk.{ReferencesAsk}
use Rattle.cat_model.specs.declared.commit.Commit.{Commit}
use Rattle.cat_model.specs.declared.content.Content.{Content}
use Rattle.cat_model.specs.declared.reference.Effective.{Effective}
use Rattle.cat_model.specs.declared.reference.Effective.TheVariants.{Named, Detached}
use Rattle.cat_model.specs.declared.reference.Position.{Position}
use Rattle.cat_model.specs.declared.reference.Reference.{Reference}
use Rattle.cat_model.specs.declared.refusal.Missing.TheVariants as missing
use Rattle.cat_model.specs.declared.refusal.Refusal.{Refusal}
use Rattle.cat_model.specs.declared.refusal.Refusal.TheVariants.{RefNotFound, ContentNotFound}
use Rattle.cat_model.specs.declared.reply.Change.{Change}
use Rattle.cat_model.specs.declared.reply.Change.TheVariants as changes
use Rattle.cat_model.specs.declared.reply.HistoryItem.{HistoryItem}
use Rattle.cat_model.specs.declared.reply.ReferencesPage.{ReferencesPage}
use Rattle.cat_model.specs.declared.reply.Reply.{Reply}
use Rattle.cat_model.specs.declared.reply.Reply.TheVariants as replies
use Rattle.cat_model.specs.Listing.{listing, entries_after}
use Rattle.cat_model.specs.Maps.{Map, entry_of}
use Rattle.cat_model.specs.Maps as maps
use Rattle.cat_model.specs.Chain.{entries, on_chain}
use Rattle.cat_model.specs.State.{Digest, State, content_at, is_known}
use Rattle.cat_model.specs.Refusing.{◌>>=◌, Tested, needs, found, perhaps_named, positioned}
use Rattle.cat_model.specs.Pages.{first, last_shown, references_after, history}

-- a commit as a reference at it, or detached
abbrev pub effective_at : Option Reference → Hash → Effective
effective_at None hash = Detached hash
effective_at (Some reference) hash = Named (record reference { head = hash })

-- the commit that a token names stands in place of the one asked for; it must be known
abbrev pub turned_to : Digest → State → Hash → Option Hash → Result Hash Refusal
turned_to digest state hash None = Ok hash
turned_to digest state hash (Some other) = needs (is_known digest state other) RefNotFound >>= λ _. Ok other

-- ---- references

-- a page of the references after a name, or of all
unfoldable pub references_page : List Reference → ReferencesAsk → ReferencesPage
references_page references a =
    let left = references_after references a.after in
    record { items = take a.limit left; next = option_map (λ r. r.name) (last_shown a.limit left) }

-- a reference at its head, or at a hash on its chain, or at a commit before it
unfoldable pub answer_reference : Digest → State → Position → Result Reply Refusal
answer_reference digest state p =
    perhaps_named state p.from.name >>= λ reference.
    positioned digest state reference p >>= λ hash.
    Ok (replies.Effective (effective_at reference hash))

-- ---- entries and commits

-- a page of the entries at a commit that pass a filter
unfoldable pub answer_entries : Digest → State → EntriesAsk → Result Reply Refusal
answer_entries digest state a =
    perhaps_named state a.at.from.name >>= λ reference.
    positioned digest state reference a.at >>= λ asked.
    turned_to digest state asked (option_map (λ x. x.0) a.after) >>= λ hash.
    let left = entries_after (listing (entries state.commits hash) a.filter) (option_map (λ x. x.1) a.after) in
    Ok (replies.Entries (record {
      effective = effective_at reference hash;
      items = take a.limit left;
      next = option_map (λ x. (hash, x.0)) (last_shown a.limit left);
    }))

-- a change of a commit, with the content of its entry where the catalogue holds it
abbrev pub change_of : List (Hash × Content) → maps.Change → Change
change_of present (key, None) = changes.Delete key
change_of present (key, Some entry) = changes.Put key (content_at present entry.hash)

-- the changes of a commit, where they are asked for
abbrev pub operations_of : List (Hash × Content) → Bool → Commit → Option (List Change)
operations_of present false c = None
operations_of present true c = Some (map (change_of present) c.ops)

-- a commit of a history
unfoldable pub history_item : List (Hash × Content) → Bool → Hash × Commit → HistoryItem
history_item present with_operations x = record {
  hash = x.0;
  parent = x.1.parent;
  merge_parent = x.1.merge_parent;
  time = x.1.time;
  meta = x.1.meta;
  operations = operations_of present with_operations x.1;
}

-- the last commit that is asked for is on the chain
abbrev pub needs_until : State → Hash → Option Hash → Tested
needs_until state hash None = Ok tt
needs_until state hash (Some last) = needs (on_chain state.commits hash last) RefNotFound

-- a page of a chain
unfoldable pub answer_history : Digest → State → HistoryAsk → Result Reply Refusal
answer_history digest state a =
    perhaps_named state a.at.from.name >>= λ reference.
    positioned digest state reference a.at >>= λ asked.
    turned_to digest state asked a.from >>= λ hash.
    needs_until state hash a.until >>= λ _.
    let left = history state.commits hash a.until in
    Ok (replies.History (record {
      items = map (history_item state.present a.with_operations) (take a.limit left);
      next = option_map (λ x. x.0) (first (drop a.limit left));
    }))

-- ---- contents

-- the content of a key, where it is there and the catalogue holds it
abbrev pub content_of_key : List (Hash × Content) → Map → Key → Option Content
content_of_key present map key = option_and_then (λ entry. content_at present entry.hash) (entry_of map key)

-- the same, with the key
abbrev pub keyed_content : List (Hash × Content) → Map → Key → Option (Key × Content)
keyed_content present map key = option_map (λ content. (key, content)) (content_of_key present map key)

-- the contents of keys, in the order asked for; keys without one are left out
unfoldable pub answer_contents : Digest → State → ContentsAsk → Result Reply Refusal
answer_contents digest state a =
    perhaps_named state a.at.from.name >>= λ reference.
    positioned digest state reference a.at >>= λ hash.
    Ok (replies.Contents (record {
      effective = effective_at reference hash;
      contents = filter_map (keyed_content state.present (entries state.commits hash)) a.keys;
    }))

-- the content of one key
unfoldable pub answer_content : Digest → State → ContentAsk → Result Reply Refusal
answer_content digest state a =
    perhaps_named state a.at.from.name >>= λ reference.
    positioned digest state reference a.at >>= λ hash.
    found (entry_of (entries state.commits hash) a.key) (ContentNotFound missing.Absent) >>= λ entry.
    found (content_at state.present entry.hash) (ContentNotFound missing.Expired) >>= λ content.
    Ok (replies.Content (record { effective = effective_at reference hash; content = content }))

-- the answer to a reading call, or its refusal
abbrev pub answer : Digest → State → Ask → Result Reply Refusal
answer digest state asks.Config = Ok replies.Config
answer digest state (asks.References a) = Ok (replies.References (references_page state.references a))
answer digest state (asks.Reference p) = answer_reference digest state p
answer digest state (asks.Entries a) = answer_entries digest state a
answer digest state (asks.History a) = answer_history digest state a
answer digest state (asks.Contents a) = answer_contents digest state a
answer digest state (asks.Content a) = answer_content digest state a
