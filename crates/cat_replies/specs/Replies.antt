-- Replies as JSON, members in the order of their names' bytes.
use Rattle.std.specs.Prelude.{◌≡◌, ℕ, List, is_some, option_map, codes, false}
use Rattle.serde_json.specs.Data.{Data, boolean, string, object, no_members}
use Rattle.serde_json.specs.Written.{has_float}
use Rattle.cat_commit.specs.Metas.{told_meta_data, no_float_told_meta}
use Rattle.cat_content.specs.Forms.{content_data, no_float_content}
use Rattle.cat_json.specs.Names.{hash_data, id_data, key_data, no_float_key}
use Rattle.cat_json.specs.Numbers.{natural_data}
use Rattle.cat_json.specs.Writing.{◌+>◌, ◌+?>◌, list_data, no_float_list, floatless}
use Rattle.cat_names.specs.Fields.{Key}
use Rattle.cat_names.specs.Hashes.{no_ancestor}
use Rattle.cat_names.specs.declared.hash.ContentId.{ContentId}
use Rattle.cat_names.specs.declared.hash.Hash.{Hash}
use Rattle.cat_model.specs.Formats.{kind_name}
use Rattle.cat_model.specs.declared.content.Content.{Content}
use Rattle.cat_model.specs.declared.entry.Entry.{Entry}
use Rattle.cat_model.specs.declared.reference.Effective.{Effective}
use Rattle.cat_model.specs.declared.reference.Effective.TheVariants.{Named, Detached}
use Rattle.cat_model.specs.declared.reference.Reference.{Reference}
use Rattle.cat_model.specs.declared.reply.Change.{Change}
use Rattle.cat_model.specs.declared.reply.Change.TheVariants as changes
use Rattle.cat_model.specs.declared.reply.Committed.{Committed}
use Rattle.cat_model.specs.declared.reply.ContentReply.{ContentReply}
use Rattle.cat_model.specs.declared.reply.ContentsReply.{ContentsReply}
use Rattle.cat_model.specs.declared.reply.EntriesPage.{EntriesPage}
use Rattle.cat_model.specs.declared.reply.HistoryItem.{HistoryItem}
use Rattle.cat_model.specs.declared.reply.HistoryPage.{HistoryPage}
use Rattle.cat_model.specs.declared.reply.Merged.{Merged}
use Rattle.cat_model.specs.declared.reply.ReferencesPage.{ReferencesPage}
use Rattle.cat_model.specs.declared.reply.Reply.{Reply}
use Rattle.cat_model.specs.declared.reply.Reply.TheVariants as replies
use Rattle.cat_model.specs.declared.reply.Swept.{Swept}
use Rattle.cat_pages.specs.Tokens.{token_text}
use Rattle.cat_pages.specs.declared.token.Token.{Token}
use Rattle.cat_pages.specs.declared.token.Token.TheVariants as tokens
use Rattle.cat_replies.specs.Merged.{detail_data, no_float_detail}
use Rattle.cat_replies.specs.Wording.{kind_text}

abbrev pub reference_data : Reference → Data
reference_data r = object (no_members
    +> (codes "hash", hash_data r.head)
    +> (codes "name", string r.name)
    +> (codes "type", string (kind_text r.kind)))

abbrev pub effective_data : Effective → Data
effective_data (Named reference) = reference_data reference
effective_data (Detached hash) = object (no_members
    +> (codes "hash", hash_data hash)
    +> (codes "type", string (codes "DETACHED")))

abbrev pub token_data : Token → Data
token_data token = string (token_text token)

abbrev pub added_data : ContentId × Key → Data
added_data a = object (no_members
    +> (codes "contentId", id_data a.0)
    +> (codes "key", key_data a.1))

abbrev pub config_data : Data
config_data = object (no_members
    +> (codes "actualApiVersion", natural_data 2)
    +> (codes "defaultBranch", string (codes "main"))
    +> (codes "maxSupportedApiVersion", natural_data 2)
    +> (codes "minSupportedApiVersion", natural_data 2)
    +> (codes "noAncestorHash", hash_data no_ancestor))

abbrev pub content_reply_data : ContentReply → Data
content_reply_data r = object (no_members
    +> (codes "content", content_data r.content)
    +> (codes "effectiveReference", effective_data r.effective))

abbrev pub keyed_content_data : Key × Content → Data
keyed_content_data c = object (no_members
    +> (codes "content", content_data c.1)
    +> (codes "key", key_data c.0))

abbrev pub contents_data : ContentsReply → Data
contents_data r = object (no_members
    +> (codes "contents", list_data keyed_content_data r.contents)
    +> (codes "effectiveReference", effective_data r.effective))

abbrev pub committed_data : Committed → Data
committed_data r = object (no_members
    +> (codes "addedContents", list_data added_data r.added)
    +> (codes "targetBranch", reference_data r.target))

-- what a merge did or found: the head before, and the one that the branch has then
abbrev pub merged_data : Merged → Data
merged_data m = object (no_members
    +?> (codes "commonAncestor", option_map hash_data m.common_ancestor)
    +> (codes "details", list_data detail_data m.details)
    +> (codes "effectiveTargetHash", hash_data m.effective_target)
    +> (codes "resultantTargetHash", hash_data m.target.head)
    +> (codes "targetBranch", reference_data m.target)
    +> (codes "wasApplied", boolean m.was_applied)
    +> (codes "wasSuccessful", boolean m.was_successful))

-- what a sweep did
abbrev pub swept_data : Swept → Data
swept_data s = object (no_members
    +> (codes "kept", natural_data s.kept)
    +> (codes "openedPlace", natural_data s.opened)
    +> (codes "removed", natural_data s.removed))

-- a checkpoint: the place of its state
abbrev pub checkpoint_data : ℕ → Data
checkpoint_data place = object (no_members
    +> (codes "place", natural_data place))

-- ---- pages: each tells whether more follows, and the token of the next one where it does

abbrev pub references_token : List ℕ → Data
references_token name = token_data (tokens.References name)

abbrev pub references_data : ReferencesPage → Data
references_data p = object (no_members
    +> (codes "hasMore", boolean (is_some p.next))
    +> (codes "references", list_data reference_data p.items)
    +?> (codes "token", option_map references_token p.next))

abbrev pub entry_data : Key × Entry → Data
entry_data e = object (no_members
    +> (codes "contentId", id_data e.1.id)
    +> (codes "name", key_data e.0)
    +> (codes "type", string (kind_name e.1.kind)))

abbrev pub entries_token : Hash × Key → Data
entries_token x = token_data (tokens.Entries x.0 x.1)

abbrev pub entries_data : EntriesPage → Data
entries_data p = object (no_members
    +> (codes "effectiveReference", effective_data p.effective)
    +> (codes "entries", list_data entry_data p.items)
    +> (codes "hasMore", boolean (is_some p.next))
    +?> (codes "token", option_map entries_token p.next))

-- a PUT without its content is of one that the catalogue holds no longer
abbrev pub change_data : Change → Data
change_data (changes.Put key content) = object (no_members
    +?> (codes "content", option_map content_data content)
    +> (codes "key", key_data key)
    +> (codes "type", string (codes "PUT")))
change_data (changes.Delete key) = object (no_members
    +> (codes "key", key_data key)
    +> (codes "type", string (codes "DELETE")))

abbrev pub history_item_data : HistoryItem → Data
history_item_data i = object (no_members
    +> (codes "commitMeta", told_meta_data i.hash i.parent i.merge_parent i.time i.meta)
    +?> (codes "operations", option_map (list_data change_data) i.operations)
    +> (codes "parentCommitHash", hash_data i.parent))

abbrev pub history_token : Hash → Data
history_token hash = token_data (tokens.History hash)

abbrev pub history_data : HistoryPage → Data
history_data p = object (no_members
    +> (codes "hasMore", boolean (is_some p.next))
    +> (codes "logEntries", list_data history_item_data p.items)
    +?> (codes "token", option_map history_token p.next))

-- ---- each reply

abbrev pub reply_data : Reply → Data
reply_data replies.Config = config_data
reply_data (replies.References p) = references_data p
reply_data (replies.Effective effective) = object (no_members
    +> (codes "reference", effective_data effective))
reply_data (replies.Entries p) = entries_data p
reply_data (replies.History p) = history_data p
reply_data (replies.Contents r) = contents_data r
reply_data (replies.Content r) = content_reply_data r
reply_data (replies.Reference reference) = object (no_members
    +> (codes "reference", reference_data reference))
reply_data (replies.Committed r) = committed_data r
reply_data (replies.Merged m) = merged_data m
reply_data (replies.Swept s) = swept_data s
reply_data (replies.Checkpoint place) = checkpoint_data place

-- ---- none of them has a float, so its text is a function of it

pub no_float_reference : (r : Reference) → has_float (reference_data r) ≡ false
no_float_reference r = search floatless

pub no_float_effective : (e : Effective) → has_float (effective_data e) ≡ false
no_float_effective (Named reference) = no_float_reference reference
no_float_effective (Detached hash) = search floatless

pub no_float_added : (a : ContentId × Key) → has_float (added_data a) ≡ false
no_float_added a = search (floatless, no_float_key)

pub no_float_references : (p : ReferencesPage) → has_float (references_data p) ≡ false
no_float_references p = search (floatless, no_float_reference)

pub no_float_entry : (e : Key × Entry) → has_float (entry_data e) ≡ false
no_float_entry e = search (floatless, no_float_key)

pub no_float_entries : (p : EntriesPage) → has_float (entries_data p) ≡ false
no_float_entries p = search (floatless, no_float_effective, no_float_entry)

pub no_float_change : (c : Change) → has_float (change_data c) ≡ false
no_float_change (changes.Put key content) = search (floatless, no_float_content, no_float_key)
no_float_change (changes.Delete key) = search (floatless, no_float_key)

no_float_changes : (cs : List Change) → has_float (list_data change_data cs) ≡ false
no_float_changes cs = no_float_list change_data no_float_change cs

pub no_float_history_item : (i : HistoryItem) → has_float (history_item_data i) ≡ false
no_float_history_item i = search (floatless, no_float_told_meta, no_float_changes)

pub no_float_history : (p : HistoryPage) → has_float (history_data p) ≡ false
no_float_history p = search (floatless, no_float_history_item)

pub no_float_keyed_content : (c : Key × Content) → has_float (keyed_content_data c) ≡ false
no_float_keyed_content c = search (floatless, no_float_content, no_float_key)

pub no_float_contents : (r : ContentsReply) → has_float (contents_data r) ≡ false
no_float_contents r = search (floatless, no_float_keyed_content, no_float_effective)

pub no_float_merged : (m : Merged) → has_float (merged_data m) ≡ false
no_float_merged m = search (floatless, no_float_reference, no_float_detail) depth 9

pub no_float_reply : (r : Reply) → has_float (reply_data r) ≡ false
no_float_reply replies.Config = search floatless
no_float_reply (replies.References p) = no_float_references p
no_float_reply (replies.Effective effective) = search (floatless, no_float_effective)
no_float_reply (replies.Entries p) = no_float_entries p
no_float_reply (replies.History p) = no_float_history p
no_float_reply (replies.Contents r) = no_float_contents r
no_float_reply (replies.Content r) = search (floatless, no_float_content, no_float_effective)
no_float_reply (replies.Reference reference) = search floatless
no_float_reply (replies.Committed r) = search (floatless, no_float_added)
no_float_reply (replies.Merged m) = no_float_merged m
no_float_reply (replies.Swept s) = search floatless
no_float_reply (replies.Checkpoint place) = search floatless
