-- What a request wants, by its bytes.
use Rattle.std.specs.Prelude.{ℕ, ◌==◌, ◌||◌, ◌+◌, List, [], take, drop, Option, Some, None, Bool, bytes_eq, if◌then◌else◌, codes, Result, Ok, Err}
use Rattle.std.specs.List.{position}
use Rattle.cat_http.specs.Fields.{is_encoded}
use Rattle.cat_http.specs.Message.{Message}
use Rattle.cat_model.specs.declared.ask.Ask.TheVariants as asks
use Rattle.cat_model.specs.declared.refusal.Allowed.{Allowed}
use Rattle.cat_model.specs.declared.refusal.Allowed.TheVariants.{Get, Post, GetPost, GetPutDelete}
use Rattle.cat_model.specs.declared.refusal.Refusal.{Refusal}
use Rattle.cat_model.specs.declared.refusal.Refusal.TheVariants.{NoRoute, WrongMethod, Encoding}
use Rattle.cat_model.specs.Requests as requests
use Rattle.cat_policy.specs.Policies.{resolved}
use Rattle.cat_routes.specs.Parts.{escaped}
use Rattle.cat_routes.specs.Table.{Match, found_in}
use Rattle.cat_routes.specs.declared.routes.Route.{Route}
use Rattle.cat_routes.specs.declared.routes.Route.TheVariants as routes
use Rattle.cat_rest.specs.Changes.{create_at, assign_at, delete_at, commit_at, merge_at, transplant_at, collect_at}
use Rattle.cat_rest.specs.Reads.{references_at, reference_at, entries_at, history_at, contents_at, requested_at, content_at}
use Rattle.cat_rest.specs.declared.wanted.Wanted.{Wanted}
use Rattle.cat_rest.specs.declared.wanted.Wanted.TheVariants.{Read, Change, Collect, Checkpoint}

-- the methods of a route
abbrev pub methods_of : Route → Allowed
methods_of routes.Config = Get
methods_of routes.Trees = GetPost
methods_of routes.Tree = GetPutDelete
methods_of routes.Entries = Get
methods_of routes.History = Get
methods_of routes.Contents = GetPost
methods_of routes.Content = Get
methods_of routes.Commit = Post
methods_of routes.Merge = Post
methods_of routes.Transplant = Post
methods_of routes.Sweep = Post
methods_of routes.Checkpoint = Post

abbrev pub allows : Allowed → List ℕ → Bool
allows Get method = bytes_eq method (codes "GET")
allows Post method = bytes_eq method (codes "POST")
allows GetPost method = bytes_eq method (codes "GET") || bytes_eq method (codes "POST")
allows GetPutDelete method = bytes_eq method (codes "GET") || bytes_eq method (codes "PUT") || bytes_eq method (codes "DELETE")

-- where the first `?` stands
abbrev pub query_start : List ℕ → Option ℕ
query_start target = position (λ byte. byte == 63) target

abbrev pub front : Option ℕ → List ℕ → List ℕ
front None target = target
front (Some end) target = take end target

abbrev pub back : Option ℕ → List ℕ → List ℕ
back None target = []
back (Some end) target = drop (end + 1) target

-- the path is what stands before the first `?`
abbrev pub path_of : List ℕ → List ℕ
path_of target = front (query_start target) target

-- the query is what follows it
abbrev pub query_of : List ℕ → List ℕ
query_of target = back (query_start target) target

-- ---- routes with several methods

abbrev pub trees_by : Message → Result Wanted Refusal
trees_by r =
    if bytes_eq r.method (codes "GET") then references_at (query_of r.target)
    else create_at (query_of r.target) r.body

abbrev pub tree_by : Option (List ℕ) → Message → Result Wanted Refusal
tree_by part r =
    if bytes_eq r.method (codes "GET") then reference_at part
    else if bytes_eq r.method (codes "PUT") then assign_at part (query_of r.target) r.body
    else delete_at part (query_of r.target)

abbrev pub contents_by : Option (List ℕ) → Message → Result Wanted Refusal
contents_by part r =
    if bytes_eq r.method (codes "GET") then contents_at part (query_of r.target)
    else requested_at part r.body

-- ---- requests

-- what a request wants of a route that has its method; of a checkpoint the query and the body have no effect
abbrev pub read_at : Match → Message → Result Wanted Refusal
read_at (routes.Config, parts) r = Ok (Read asks.Config)
read_at (routes.Trees, parts) r = trees_by r
read_at (routes.Tree, parts) r = tree_by parts.0 r
read_at (routes.Entries, parts) r = entries_at parts.0 (query_of r.target)
read_at (routes.History, parts) r = history_at parts.0 (query_of r.target)
read_at (routes.Contents, parts) r = contents_by parts.0 r
read_at (routes.Content, parts) r = content_at parts.0 parts.1
read_at (routes.Commit, parts) r = commit_at parts.0 r.body
read_at (routes.Merge, parts) r = merge_at parts.0 r.body
read_at (routes.Transplant, parts) r = transplant_at parts.0 r.body
read_at (routes.Sweep, parts) r = collect_at r.body
read_at (routes.Checkpoint, parts) r = Ok Checkpoint

-- the method comes first, then the encoding
abbrev pub with_route : Match → Message → Result Wanted Refusal
with_route found r =
    if allows (methods_of found.0) r.method
    then (if is_encoded r.fields then Err Encoding else read_at found r)
    else Err (WrongMethod (methods_of found.0))

abbrev pub by_route : Option Match → Message → Result Wanted Refusal
by_route None r = Err NoRoute
by_route (Some found) r = with_route found r

-- what a request wants, or the first that stands in its way
unfoldable pub wanted : Message → Result Wanted Refusal
wanted r = by_route (found_in (escaped (path_of r.target))) r

-- the same, as the definitions of a session have it: a policy is that of the moment of its collection
abbrev pub wants : Wanted → requests.Wants
wants (Read ask) = requests.Read ask
wants (Change command) = requests.Change command
wants (Collect policy) = requests.Collect (λ moment. resolved moment policy)
wants Checkpoint = requests.Checkpoint
