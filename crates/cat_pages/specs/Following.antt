-- Where a listing goes on.
use Rattle.std.specs.Prelude.{Option, None, if◌then◌else◌}
use Rattle.std.specs.Option.{option_map}
use Rattle.cat_keymap.specs.declared.listing.ListingPart.{ListingPart}
use Rattle.cat_model.specs.Pages.{last}
use Rattle.cat_names.specs.declared.hash.Hash.{Hash}
use Rattle.cat_pages.specs.declared.token.Token.{Token}
use Rattle.cat_pages.specs.declared.token.Token.TheVariants.{Entries}

-- after the last entry, at the commit, where more follow
abbrev pub entries_following : Hash → ListingPart → Option Token
entries_following at part = if part.more then option_map (λ x. Entries at x.0) (last part.pairs) else None
