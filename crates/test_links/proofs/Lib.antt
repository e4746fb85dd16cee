pub mod FewLinks
