-- Names that drafts give an open sweep.
use Rattle.std.specs.Prelude.{List, ◌++◌, Option, Some, None}
use Rattle.std.specs.List.{flat_map}
use Rattle.cat_model.specs.Drafts.{Names, OpenDraft, OpenSweep}

-- names, and more behind them
abbrev pub and_names : Names → Names → Names
and_names a b = record { commits = a.commits ++ b.commits; contents = a.contents ++ b.contents }

-- those of drafts
abbrev pub names_of_drafts : List OpenDraft → Names
names_of_drafts drafts = record { commits = flat_map (λ d. d.names.commits) drafts; contents = flat_map (λ d. d.names.contents) drafts }

-- the open sweep, once a draft has named more
abbrev pub noting : Names → Option OpenSweep → Option OpenSweep
noting names None = None
noting names (Some s) = Some (record s { names = and_names s.names names })
