use Rattle.passes.proofs.written.Edit.+write_view.Given as goal

abbrev pub decreases-write_view : goal.decreases-write_view
decreases-write_view g l = l.depth
