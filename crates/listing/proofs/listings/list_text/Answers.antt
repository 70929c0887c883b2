use Rattle.std.proofs.Common.{◌≡◌, ◌≤◌, ◌++◌, length, Ok, Err, ap, ◌∙◌, arith}
use Rattle.plan.specs.Contents.{contents}
use Rattle.listing.specs.Listing.{listed, listing}
use Rattle.listing.specs.Pages.{written, fitting}
use Rattle.listing.proofs.Laying.{on_empty}
use Rattle.listing.proofs.listings.list_text.Goals as goal

pub returns-in-Ok : goal.returns-in-Ok
returns-in-Ok c =
    let is : listed (Ok (contents c.read.new.self)) ≡ listing c.args.text.now = ap listed c.in-Ok.ensures.outcome in
    let few : length (listing c.args.text.now) ≤ 299 = omega (arith, c.list_plan.ensures.few, ap length is) in
    record {
      text = λ empty. on_empty (written c.args.page.now) _ (listing c.args.text.now) empty (c.list_plan.ensures.text ∙ ap (λ l. fitting (written c.args.page.now ++ l)) is) few;
      few = few;
    }

pub returns-in-Err : goal.returns-in-Err
returns-in-Err c =
    let is : listed (Err c.in-Err.fault) ≡ listing c.args.text.now = ap listed c.in-Err.ensures.outcome in
    let few : length (listing c.args.text.now) ≤ 299 = omega (arith, c.list_fault.ensures.few, ap length is) in
    record {
      text = λ empty. on_empty (written c.args.page.now) _ (listing c.args.text.now) empty (c.list_fault.ensures.text ∙ ap (λ l. fitting (written c.args.page.now ++ l)) is) few;
      few = few;
    }
