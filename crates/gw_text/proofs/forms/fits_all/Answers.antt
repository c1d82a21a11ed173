use Rattle.std.proofs.Common.{rules}
use Rattle.gw_text.proofs.FormTable.{unlike_tokens}
use Rattle.gw_text.proofs.forms.fits_all.Goals as goal

pub returns-then-pieces-operands-clause-fits : goal.returns-then-pieces-operands-clause-fits
returns-then-pieces-operands-clause-fits c = unlike_tokens c.args.pieces.now c.args.operands.now (search rules)
