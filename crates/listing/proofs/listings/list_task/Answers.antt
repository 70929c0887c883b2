use Rattle.std.proofs.Common.{◌≡◌, ◌++◌, unwrap_or, ap, ◌∙◌}
use Rattle.dispatch.specs.Dispatcher.{state_of}
use Rattle.schedule.specs.declared.Call.TheVariants.{Admit}
use Rattle.schedule.specs.declared.Answer.TheVariants.{Level as LevelIs, Refused}
use Rattle.schedule.specs.Calls.{answer, after}
use Rattle.schedule.specs.Numbers.{task_named}
use Rattle.task.specs.Task.{task_of}
use Rattle.listing.specs.Listing.{admission, task_line, yes_line, no_line}
use Rattle.listing.specs.Pages.{written, fitting}
use Rattle.listing.proofs.Lengths.{line_short}
use Rattle.listing.proofs.listings.list_task.Goals as goal

pub returns-in-Ok : goal.returns-in-Ok
returns-in-Ok g c =
    let s = state_of g.S.Supply.row g.S.Supply.table c.args.dispatcher.now in
    let t = task_of c.args.card.now in
    let call : Admit c.id-id.result c.run.result c.period.result c.deadline.result ≡ admission t = λ i. Admit (c.id-id.ensures i) (c.run.ensures i) (c.period.ensures i) (c.deadline.ensures i) in
    let said : LevelIs c.in-Ok.level ≡ answer s (admission t) = c.in-Ok.ensures.answer ∙ ap (answer s) call in
    let line : yes_line c.id-id.result c.in-Ok.level ≡ task_line t.id (answer s (admission t)) = ap (λ i. yes_line i c.in-Ok.level) c.id-id.ensures ∙ ap (task_line t.id) said in
    record {
      text = c.put_line.ensures ∙ ap (λ l. fitting (written c.args.page.now ++ l)) line;
      few = line_short s t c.args.card.now.numbered;
      state = c.in-Ok.ensures.after ∙ ap (after s) call;
    }

pub returns-in-Err : goal.returns-in-Err
returns-in-Err g c =
    let s = state_of g.S.Supply.row g.S.Supply.table c.args.dispatcher.now in
    let t = task_of c.args.card.now in
    let call : Admit c.id-id.result c.run.result c.period.result c.deadline.result ≡ admission t = λ i. Admit (c.id-id.ensures i) (c.run.ensures i) (c.period.ensures i) (c.deadline.ensures i) in
    let said : Refused c.in-Err.refusal ≡ answer s (admission t) = c.in-Err.ensures.answer ∙ ap (answer s) call in
    let named : c.unwrap_or.result ≡ unwrap_or (task_named c.in-Err.refusal) 0 = c.unwrap_or.ensures ∙ ap (λ o. unwrap_or o 0) c.task.ensures in
    let line : no_line c.id-id.result c.unwrap_or.result ≡ task_line t.id (answer s (admission t)) = (λ i. no_line (c.id-id.ensures i) (named i)) ∙ ap (task_line t.id) said in
    record {
      text = c.put_line-in-Err.ensures ∙ ap (λ l. fitting (written c.args.page.now ++ l)) line;
      few = line_short s t c.args.card.now.numbered;
      state = c.in-Err.ensures.after ∙ ap (after s) call;
    }
