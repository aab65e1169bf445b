-- Words for worked cases: requests and short forms of replies, with a digest that is quick to compute.
use Rattle.std.specs.Prelude.{ℕ, ◌+◌, ◌*◌, ◌%◌, List, [], ◌∷◌, Option, Some, None, Result, Ok, Err, Bool, true, false, fold, map, codes, pos}
use Rattle.std.specs.Option.{option_map, option_map_or}
use Rattle.cat_names.specs.Fields.{Key}
use Rattle.cat_names.specs.declared.hash.Hash.{Hash}
use Rattle.cat_names.specs.declared.hash.ContentId.{ContentId}
use Rattle.cat_model.specs.declared.ask.Ask.TheVariants as asks
use Rattle.cat_model.specs.declared.command.Command.TheVariants as commands
use Rattle.cat_model.specs.declared.commit.Meta.{Meta}
use Rattle.cat_model.specs.declared.conflict.ConflictKind.{ConflictKind}
use Rattle.cat_model.specs.declared.content.Body.{Body}
use Rattle.cat_model.specs.declared.content.Body.TheVariants as bodies
use Rattle.cat_model.specs.declared.content.Content.{Content}
use Rattle.cat_model.specs.declared.limits.Limits.{Limits}
use Rattle.cat_model.specs.declared.merging.Behaviour.{Behaviour}
use Rattle.cat_model.specs.declared.op.Op.{Op}
use Rattle.cat_model.specs.declared.op.Op.TheVariants.{Put}
use Rattle.cat_model.specs.declared.reference.Kind.{Kind}
use Rattle.cat_model.specs.declared.reference.Kind.TheVariants.{Branch}
use Rattle.cat_model.specs.declared.reference.Position.{Position}
use Rattle.cat_model.specs.declared.reference.Effective.{Effective}
use Rattle.cat_model.specs.declared.reference.Effective.TheVariants.{Named, Detached}
use Rattle.cat_model.specs.declared.refusal.Refusal.{Refusal}
use Rattle.cat_model.specs.declared.refusal.Refusal.TheVariants.{Conflicts}
use Rattle.cat_model.specs.declared.refusal.Refused.{Refused}
use Rattle.cat_model.specs.declared.reply.Reply.{Reply}
use Rattle.cat_model.specs.declared.reply.Reply.TheVariants as replies
use Rattle.cat_model.specs.declared.reply.Told.{Told}
use Rattle.cat_model.specs.declared.commit.Commit.{Commit}
use Rattle.cat_model.specs.Limits.{program_limits}
use Rattle.cat_model.specs.Chain.{entries, commit_of}
use Rattle.cat_model.specs.State.{Digest, entry_for, no_ancestor, reference_of}
use Rattle.cat_model.specs.Requests.{Session, Wants, Read, Change}
use Rattle.cat_model.proofs.Rows.Script.{first_session, script}

-- a digest of one number
abbrev pub quick : Digest
quick bytes = fold (λ h b. (h * 257 + b + 1) % 2305843009213693951) 7 bytes ∷ []

-- one second after another
abbrev pub clock : ℕ → ℕ
clock n = (n + 1) * 1000000

abbrev pub main : List ℕ
main = codes "main"

abbrev pub dev : List ℕ
dev = codes "dev"

abbrev pub H0 : Hash
H0 = no_ancestor quick

abbrev pub note : Meta
note = record { message = codes "one"; authors = []; signed = []; properties = []; author_time = None }

abbrev pub Request : Type 0
Request = Result Wants Refusal

-- ---- contents

abbrev pub no_id : ContentId
no_id = record { bytes = [] }

abbrev pub table : ContentId → List ℕ → Content
table id location = record {
  id = id;
  body = bodies.IcebergTable (record { metadata_location = location; snapshot_id = pos 1; schema_id = pos 0; spec_id = pos 0; sort_order_id = pos 0 });
}

abbrev pub namespace : Key → Content
namespace elements = record { id = no_id; body = bodies.Namespace (record { elements = elements; properties = [] }) }

-- ---- requests

abbrev pub new : Key → Content → Op
new key c = Put key (entry_for quick c) true

abbrev pub again : Key → Content → Op
again key c = Put key (entry_for quick c) false

abbrev pub commit : List ℕ → Option Hash → List Op → List Content → Request
commit branch expected ops contents = Ok (Change (commands.Commit (record { branch = branch; expected = expected; meta = note; ops = ops; contents = contents })))

-- a new table, and a new location of a table
abbrev pub put_new : Option Hash → Key → List ℕ → Request
put_new expected key location = commit main expected (new key (table no_id location) ∷ []) (table no_id location ∷ [])

abbrev pub put : Key → ContentId → List ℕ → Request
put key id location = commit main None (again key (table id location) ∷ []) (table id location ∷ [])

abbrev pub position : Option (List ℕ) → Option Hash → Position
position name hash = record { from = record { name = name; hash = hash }; back = 0 }

abbrev pub read : Option (List ℕ) → Option Hash → Key → Request
read name hash key = Ok (Read (asks.Content (record { at = position name hash; key = key })))

-- a source: a name, a hash, and the kind that is stated of it
abbrev pub Source : Type 0
Source = Option (List ℕ) × (Option Hash × Option Kind)

abbrev pub from_branch : List ℕ → Source
from_branch name = (Some name, (None, Some Branch))

abbrev pub from_hash : Hash → Source
from_hash hash = (None, (Some hash, None))

abbrev pub create : List ℕ → Kind → Source → Request
create name kind source = Ok (Change (commands.Create (record { name = name; kind = kind; source = record { name = source.0; hash = source.1.0 }; source_kind = source.1.1 })))

abbrev pub assign : List ℕ → Option Kind → Option Hash → Source → Request
assign name kind expected source = Ok (Change (commands.Assign (record { name = name; kind = kind; expected = expected; source = record { name = source.0; hash = source.1.0 }; source_kind = source.1.1 })))

abbrev pub delete : List ℕ → Option Kind → Option Hash → Request
delete name kind expected = Ok (Change (commands.Delete (record { name = name; kind = kind; expected = expected })))

abbrev pub look : Option (List ℕ) → Option Hash → Request
look name hash = Ok (Read (asks.Reference (position name hash)))

-- so many commits before
abbrev pub look_back : Option (List ℕ) → Option Hash → ℕ → Request
look_back name hash n = Ok (Read (asks.Reference (record { from = record { name = name; hash = hash }; back = n })))

abbrev pub merge_as : Bool → Bool → List ℕ → Option Hash → List ℕ → Hash → Behaviour → Request
merge_as tried result into hash from from_hash mode = Ok (Change (commands.Merge (record {
  branch = into;
  hash = hash;
  from = from;
  from_hash = from_hash;
  meta = note;
  modes = record { default = mode; keys = [] };
  dry_run = tried;
  conflicts_as_result = result;
})))

abbrev pub merge : List ℕ → List ℕ → Hash → Behaviour → Request
merge into from from_hash mode = merge_as false false into None from from_hash mode

-- ---- replies

pub data Short : Type 0 where
  done : ℕ → Short
  gives : ℕ → List ℕ → Short
  points : ℕ → Option (List ℕ) → Hash → Short
  stands : ℕ → List ℕ → Kind → Hash → Short
  merged : ℕ → Bool → Bool → Short
  told : ℕ → Reply → Short
  not : Option ℕ → Refusal → Short

abbrev pub location_of : ℕ → Reply → Body → Short
location_of place reply (bodies.IcebergTable t) = gives place t.metadata_location
location_of place reply _ = told place reply

abbrev pub point_of : ℕ → Effective → Short
point_of place (Named r) = points place (Some r.name) r.head
point_of place (Detached hash) = points place None hash

abbrev pub short_reply : ℕ → Reply → Short
short_reply place (replies.Committed c) = done place
short_reply place (replies.Effective e) = point_of place e
short_reply place (replies.Merged m) = merged place m.was_applied m.was_successful
short_reply place (replies.Reference r) = stands place r.name r.kind r.head
short_reply place (replies.Content c) = location_of place (replies.Content c) c.content.body
short_reply place reply = told place reply

abbrev pub short : Result Told Refused → Short
short (Ok t) = short_reply t.place t.reply
short (Err e) = not e.place e.why

-- the session after requests, and their replies in short
abbrev pub after : Session → List Request → Session
after s requests = (script quick 1 clock s requests).after

abbrev pub said : Session → List Request → List Short
said s requests = map short (script quick 1 clock s requests).said

abbrev pub head_of : List ℕ → Session → Hash
head_of branch s = option_map_or (λ r. r.head) (reference_of s.book.state.references branch) H0

abbrev pub head : Session → Hash
head s = head_of main s

abbrev pub refused_at : ℕ → Key → ConflictKind → Short
refused_at place key kind = not (Some place) (Conflicts (record { key = Some key; kind = kind } ∷ []))

-- ---- keys and sessions

abbrev pub t1 : Key
t1 = codes "t1" ∷ []

abbrev pub t2 : Key
t2 = codes "t2" ∷ []

abbrev pub t9 : Key
t9 = codes "t9" ∷ []

abbrev pub a : Key
a = codes "a" ∷ []

abbrev pub a-t : Key
a-t = codes "a" ∷ codes "t" ∷ []

abbrev pub m1 : List ℕ
m1 = codes "m1"

abbrev pub empty : Session
empty = first_session quick program_limits

-- a session on an empty catalogue with other limits
abbrev pub limited : Limits → Session
limited = first_session quick

abbrev pub ample : Limits
ample = program_limits

-- the keys and ids at the head of main
abbrev pub ids : Session → List (Key × ContentId)
ids s = map (λ x. (x.0, x.1.id)) (entries s.book.state.commits (head s))

-- the commit at the head of main
abbrev pub head_commit : Session → Option Commit
head_commit s = commit_of s.book.state.commits (head s)

abbrev pub parent_of_head : Session → Option Hash
parent_of_head s = option_map (λ c. c.parent) (head_commit s)

-- one table
abbrev pub one : Session
one = after empty (put_new None t1 m1 ∷ [])

-- a namespace and a key in it
abbrev pub both : Request
both = commit main None (new a (namespace a) ∷ new a-t (table no_id m1) ∷ []) (namespace a ∷ table no_id m1 ∷ [])
