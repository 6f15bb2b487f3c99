-- `flattening::operation::flatten_stated` meets its contract.
use Rattle.model.proofs.Tests.{handed_on}
use Rattle.flattening.proofs.Operations.{stated_flattened}
use Rattle.flattening.proofs.operation.flatten_stated.Goals as goal

pub flatten_row-requires : goal.flatten_row-requires
flatten_row-requires c = search (stated_flattened, c.in_ok-check_file.was)

pub returns-in_err-check_file : goal.returns-in_err-check_file
returns-in_err-check_file c =
    record {
      value = handed_on _ _ _ c.from_residual.ensures.1 (search (stated_flattened, c.in_err-check_file.was));
      room_after = search (stated_flattened, c.in_err-check_file.was);
    }
