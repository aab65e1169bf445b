-- The table of routes, and what a path finds in it. A route's parameters are its reference and its
-- key, in this order.
use Rattle.std.specs.Prelude.{ℕ, List, [], Option, Result, Ok, Err, codes, map, option_map, slice_get}
use Rattle.matchit.specs.Rows.{RowsOf}
use Rattle.matchit.specs.Route.{Scan, parse_route}
use Rattle.matchit.specs.Router.{RouteOf, route_from}
use Rattle.matchit.specs.Order.{placed}
use Rattle.matchit.specs.Seek.{first}
use Rattle.matchit.specs.Params.{walk}
use Rattle.matchit.specs.declared.error.InsertError.{InsertError}
use Rattle.cat_routes.specs.declared.routes.Found.{Found}
use Rattle.cat_routes.specs.declared.routes.Route.{Route}
use Rattle.cat_routes.specs.declared.routes.Route.TheVariants.{Config, Trees, Tree, Entries, History, Contents, Content, Commit, Merge, Transplant, Sweep, Checkpoint}

-- the table with one more route
abbrev pub with_route : Result Scan InsertError → Route → RowsOf (RouteOf Route) → RowsOf (RouteOf Route)
with_route (Ok s) route rows = placed (s.pattern, route_from s route) rows
with_route (Err e) route rows = rows

abbrev pub table : RowsOf (RouteOf Route)
table =
    (with_route (parse_route (codes "/gc/v1/checkpoint")) Checkpoint
    (with_route (parse_route (codes "/gc/v1/sweep")) Sweep
    (with_route (parse_route (codes "/api/v2/trees/{reference}/history/transplant")) Transplant
    (with_route (parse_route (codes "/api/v2/trees/{reference}/history/merge")) Merge
    (with_route (parse_route (codes "/api/v2/trees/{reference}/history/commit")) Commit
    (with_route (parse_route (codes "/api/v2/trees/{reference}/contents/{key}")) Content
    (with_route (parse_route (codes "/api/v2/trees/{reference}/contents")) Contents
    (with_route (parse_route (codes "/api/v2/trees/{reference}/history")) History
    (with_route (parse_route (codes "/api/v2/trees/{reference}/entries")) Entries
    (with_route (parse_route (codes "/api/v2/trees/{reference}")) Tree
    (with_route (parse_route (codes "/api/v2/trees")) Trees
    (with_route (parse_route (codes "/api/v2/config")) Config
    []))))))))))))

-- what the parameters of a route took of a path, in their order
abbrev pub parts_of : RouteOf Route → List ℕ → List (List ℕ)
parts_of r path = map (λ p. p.1) (walk r.pattern r.text path r.names 0 0)

-- a route with what its reference and its key took
abbrev pub Match : Type 0
Match = Route × (Option (List ℕ) × Option (List ℕ))

abbrev pub shown : Found → Match
shown f = (f.route, (option_map (λ s. s.now) f.reference, option_map (λ s. s.now) f.key))

-- what an ASCII path finds
abbrev pub found_in : List ℕ → Option Match
found_in path = option_map (λ r. (r.value, (slice_get (parts_of r path) 0, slice_get (parts_of r path) 1))) (first table path)
