use Rattle.std.proofs.Common.{◌++◌, ap, ◌∙◌, arith}
use Rattle.listing.specs.Listing.{fault_line}
use Rattle.listing.specs.Pages.{written, fitting}
use Rattle.listing.proofs.Lengths.{fault_fits}
use Rattle.listing.proofs.listings.list_fault.Goals as goal

pub returns : goal.returns
returns c =
    let f = c.args.fault in
    record {
      text = c.put_line.ensures ∙ ap (λ n. fitting (written c.args.page.now ++ fault_line n f.line f.field)) c.number-cause.ensures;
      few = fault_fits f (omega (arith, c.number-cause.ensures)) (omega arith) (omega arith);
    }
