use Rattle.cat_ordered.proofs.owned.changed_piece.Goals as goal

pub returns-in_ok-made-in-Ok : goal.returns-in_ok-made-in-Ok
returns-in_ok-made-in-Ok g c = record {
  made = rw c.in-Ok.ensures.ok at c.in_ok-made-in-Ok.ensures.made;
  few = c.in_ok-made-in-Ok.ensures.few;
}

pub returns-in_ok-made-in-Err : goal.returns-in_ok-made-in-Err
returns-in_ok-made-in-Err g c = record {
  made = rw (c.deref.ensures, c.in-Err.ensures.err) at c.in_ok-made-in-Err.ensures.made;
  few = c.in_ok-made-in-Err.ensures.few;
}
