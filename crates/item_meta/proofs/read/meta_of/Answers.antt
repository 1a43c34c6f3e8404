use Rattle.std.proofs.Common.{Some}
use Rattle.serde_json.specs.View.{view}
use Rattle.item_meta.specs.declared.field.Field.TheVariants.{Path, Size, Base, BaseEnd, Ranges, Dirty, Intent, Mtime, Atime}
use Rattle.item_meta.proofs.First.{failed, first_path, first_size, first_base, first_base_end, first_ranges, first_dirty, first_intent, first_mtime, first_atime}
use Rattle.item_meta.proofs.read.meta_of.Goals as goal

pub returns-in_err-path : goal.returns-in_err-path
returns-in_err-path c = λ text head.
    let o = Some (view c.args.value.now) in
    failed text o Path _ c.in_err-path.field-0.0 c.from_residual.result c.in_err-path.ensures c.from_residual.ensures.1
    (first_path text o head)

pub returns-in_err-size : goal.returns-in_err-size
returns-in_err-size c = λ text head.
    let o = Some (view c.args.value.now) in
    failed text o Size _ c.in_err-size.field-0.0 c.from_residual-in_err-size.result c.in_err-size.ensures c.from_residual-in_err-size.ensures.1
    (first_size text o head c.in_ok-path.path c.in_ok-path.ensures)

pub returns-in_err-base : goal.returns-in_err-base
returns-in_err-base c = λ text head.
    let o = Some (view c.args.value.now) in
    failed text o Base _ c.in_err-base.field-0.0 c.from_residual-in_err-base.result c.in_err-base.ensures c.from_residual-in_err-base.ensures.1
    (first_base text o head c.in_ok-path.path c.in_ok-path.ensures c.in_ok-size.size c.in_ok-size.ensures)

pub returns-in_err-base_end : goal.returns-in_err-base_end
returns-in_err-base_end c = λ text head.
    let o = Some (view c.args.value.now) in
    failed text o BaseEnd _ c.in_err-base_end.field-0.0 c.from_residual-in_err-base_end.result c.in_err-base_end.ensures c.from_residual-in_err-base_end.ensures.1
    (first_base_end text o head c.in_ok-path.path c.in_ok-path.ensures c.in_ok-size.size c.in_ok-size.ensures c.in_ok-base.base c.in_ok-base.ensures)

pub returns-in_err-ranges : goal.returns-in_err-ranges
returns-in_err-ranges c = λ text head.
    let o = Some (view c.args.value.now) in
    failed text o Ranges _ c.in_err-ranges.field-0.0 c.from_residual-in_err-ranges.result c.in_err-ranges.ensures c.from_residual-in_err-ranges.ensures.1
    (first_ranges text o head c.in_ok-path.path c.in_ok-path.ensures c.in_ok-size.size c.in_ok-size.ensures c.in_ok-base.base c.in_ok-base.ensures c.in_ok-base_end.base_end c.in_ok-base_end.ensures)

pub returns-in_err-dirty : goal.returns-in_err-dirty
returns-in_err-dirty c = λ text head.
    let o = Some (view c.args.value.now) in
    failed text o Dirty _ c.in_err-dirty.field-0.0 c.from_residual-in_err-dirty.result c.in_err-dirty.ensures c.from_residual-in_err-dirty.ensures.1
    (first_dirty text o head c.in_ok-path.path c.in_ok-path.ensures c.in_ok-size.size c.in_ok-size.ensures c.in_ok-base.base c.in_ok-base.ensures c.in_ok-base_end.base_end c.in_ok-base_end.ensures c.in_ok-ranges.ranges c.in_ok-ranges.ensures)

pub returns-in_err-intent : goal.returns-in_err-intent
returns-in_err-intent c = λ text head.
    let o = Some (view c.args.value.now) in
    failed text o Intent _ c.in_err-intent.field-0.0 c.from_residual-in_err-intent.result c.in_err-intent.ensures c.from_residual-in_err-intent.ensures.1
    (first_intent text o head c.in_ok-path.path c.in_ok-path.ensures c.in_ok-size.size c.in_ok-size.ensures c.in_ok-base.base c.in_ok-base.ensures c.in_ok-base_end.base_end c.in_ok-base_end.ensures c.in_ok-ranges.ranges c.in_ok-ranges.ensures c.in_ok-dirty.dirty c.in_ok-dirty.ensures)

pub returns-in_err-mtime : goal.returns-in_err-mtime
returns-in_err-mtime c = λ text head.
    let o = Some (view c.args.value.now) in
    failed text o Mtime _ c.in_err-mtime.field-0.0 c.from_residual-in_err-mtime.result c.in_err-mtime.ensures c.from_residual-in_err-mtime.ensures.1
    (first_mtime text o head c.in_ok-path.path c.in_ok-path.ensures c.in_ok-size.size c.in_ok-size.ensures c.in_ok-base.base c.in_ok-base.ensures c.in_ok-base_end.base_end c.in_ok-base_end.ensures c.in_ok-ranges.ranges c.in_ok-ranges.ensures c.in_ok-dirty.dirty c.in_ok-dirty.ensures c.in_ok-intent.intent c.in_ok-intent.ensures)

pub returns-in_err-atime : goal.returns-in_err-atime
returns-in_err-atime c = λ text head.
    let o = Some (view c.args.value.now) in
    failed text o Atime _ c.in_err-atime.field-0.0 c.from_residual-in_err-atime.result c.in_err-atime.ensures c.from_residual-in_err-atime.ensures.1
    (first_atime text o head c.in_ok-path.path c.in_ok-path.ensures c.in_ok-size.size c.in_ok-size.ensures c.in_ok-base.base c.in_ok-base.ensures c.in_ok-base_end.base_end c.in_ok-base_end.ensures c.in_ok-ranges.ranges c.in_ok-ranges.ensures c.in_ok-dirty.dirty c.in_ok-dirty.ensures c.in_ok-intent.intent c.in_ok-intent.ensures c.in_ok-mtime.mtime c.in_ok-mtime.ensures)
