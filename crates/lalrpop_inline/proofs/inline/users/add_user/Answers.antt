use Rattle.lalrpop_inline.proofs.theory.inlining.InlineUsers.{user_there, users_kept}
use Rattle.lalrpop_inline.proofs.inline.users.add_user.Goals as goal

pub returns-in_ok-push-clause-added : goal.returns-in_ok-push-clause-added
returns-in_ok-push-clause-added c =
    λ marked. user_there c.args.users.now c.push.new.self c.args.name.now c.args.user.now c.in_ok-clone.field-0 c.in_ok-clone-2.field-0 c.in_ok-clone.ensures c.in_ok-clone-2.ensures c.in_ok-push.ensures.pushed

pub returns-in_ok-push-clause-kept : goal.returns-in_ok-push-clause-kept
returns-in_ok-push-clause-kept c =
    users_kept c.args.users.now c.push.new.self c.in_ok-clone.field-0 c.in_ok-clone-2.field-0 c.in_ok-push.ensures.pushed c.in_ok-push.ensures.others
