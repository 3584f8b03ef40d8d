pub mod MemberLines
