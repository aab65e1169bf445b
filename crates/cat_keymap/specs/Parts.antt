-- Parts of a listing.
use Rattle.std.specs.Prelude.{ℕ, Option, take, length, nat_lt}
use Rattle.cat_names.specs.Fields.{Key}
use Rattle.cat_model.specs.declared.filter.Filter.{Filter}
use Rattle.cat_model.specs.Listing.{listing, entries_after}
use Rattle.cat_model.specs.Maps.{Map}
use Rattle.cat_keymap.specs.declared.listing.ListingPart.{ListingPart}

-- so many of a listing, and whether more follow
abbrev pub first_part : ℕ → Map → ListingPart
first_part limit pairs = record { pairs = take limit pairs; more = nat_lt limit (length pairs) }

-- so many of the entries that a filter lets pass, after a key
abbrev pub part : Map → Filter → Option Key → ℕ → ListingPart
part map f after limit = first_part limit (entries_after (listing map f) after)
