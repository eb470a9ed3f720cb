use Rattle.std.proofs.Common.{sym, ap, ◌∙◌}
use Rattle.index.specs.Entries.{entry_after}
use Rattle.index.proofs.Changing.{removed}
use Rattle.index.proofs.initial.set_initial.Goals as goal

pub returns-in-None-clause-changed : goal.returns-in-None-clause-changed
returns-in-None-clause-changed c =
    let some = sym c.is_empty.ensures ∙ c.if-is_empty.false in
    let none = ap (λ e. entry_after e c.args.event) (sym c.get.ensures) ∙ sym c.next_entry.ensures ∙ c.in-None.is in
    removed _ _ _ _ _ _ some none c.args.initial.now.counted c.remove.new.self.counted _ c.remove.ensures.done
