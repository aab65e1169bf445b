use Rattle.std.proofs.Common.{◌+◌, ◌∷◌, drop, sym, ap, ◌∙◌, arith}
use Rattle.std.proofs.lemmas.List.{drop_more}
use Rattle.cat_model.specs.declared.log_entry.LogEntry.{LogEntry}
use Rattle.cat_model.specs.Resuming.{last_draft}
use Rattle.cat_core.proofs.LastDraft.{last_more}
use Rattle.cat_core.proofs.ledger.last_of.Goals as goal

pub loop-entry-preserved : goal.loop-entry-preserved
loop-entry-preserved c =
    let l = c.loop-entry in
    let entries = c.args.entries.now in
    let rest = drop (l.entry-index + 1) entries in
    let next = drop_more entries l.entry-index c.entry-item.result (omega arith) ∙ ap (λ (e : LogEntry). e ∷ rest) (sym c.entry-item.is) in
    ap (λ n. last_draft n rest) c.max-last.ensures ∙ last_more l.last c.entry-item.result.draft rest ∙ sym (ap (last_draft l.last) next) ∙ l.invariant
